use Rattle.std.proofs.Common.{◌≡◌, ◌∙◌, ℕ, length, take, ap, arith}
use Rattle.std.specs.Prelude.{min, max}
use Rattle.std.proofs.lemmas.List.{length-take, take_min}
use Rattle.pcap_classic.specs.PacketText.{packet_limit}
use Rattle.pcap_tolerant.specs.AsIs.{as_it_is}
use Rattle.pcapfile_as_is.specs.Repaired.{repaired_time}
use Rattle.pcapfile_as_is.proofs.Whole.{captured_same}
use Rattle.pcapfile_as_is.proofs.mended.repaired.Goals as goal

pub returns : goal.returns
returns c =
    let packet = as_it_is c.args.packet.now in
    let bytes = c.args.packet.now.data.now in
    let len : c.min-len.result ≡ min packet_limit (length bytes) = omega (arith, c.min-len.ensures) in
    let long : c.min-len.result ≡ length (take packet_limit bytes) = omega (arith, len, length-take packet_limit bytes) in
    let front = c.split_at.ensures.front ∙ ap (λ (k : ℕ). take k bytes) len ∙ take_min packet_limit bytes in
    let original : c.max-orig_len.result ≡ max (min packet.head.original packet_limit) (length (take packet_limit bytes)) = omega (arith, c.max-orig_len.ensures, c.min.ensures, long) in
    rw c.new.ensures (captured_same c.time_of-ts_sec.result (repaired_time c.args.ts_resolution packet.head) c.min-len.result (length (take packet_limit bytes)) c.max-orig_len.result (max (min packet.head.original packet_limit) (length (take packet_limit bytes)))
    c.split_at.result.0.now (take packet_limit bytes) c.time_of-ts_sec.ensures long original front)

use Rattle.std.proofs.Common.{◌≡◌, ◌+◌, ◌-◌, ◌/◌, ◌%◌, ◌^◌, ◌∷◌, [], ℕ, List, arith, length, refl, subst, take}
use Rattle.pcap_core.specs.Padded.{up_to_4}
use Rattle.pcapfile_values.specs.BlockTexts.{PutsAt}
use Rattle.pcapfile_values.proofs.Puts.{puts_both}
use Rattle.pcapfile_values.proofs.Parts.{head_long, packet_parts}
use Rattle.pcapfile_values.proofs.texts.put_packet_in.Goals as goal

pub returns : goal.returns
returns g c =
    let write = g.B.ByteOrder.bytes_of in
    let wide = g.met.B.ByteOrder.length_bytes in
    let p = c.args.packet.now in
    let n = length p.bytes.now in
    let missing = (4 - n % 4) % 4 in
    let len = n + missing + 32 in
    let zeros : List ℕ = 0 ∷ 0 ∷ 0 ∷ [] in
    let padded : n + missing ≡ up_to_4 n = omega arith in
    let put = puts_both 28 (head_long write wide len p.interface_id (p.timestamp / 2 ^ 32) (p.timestamp % 2 ^ 32) n p.orig_len) c.put_packet_head-bytes_at.ensures.behind c.put_packet_head-bytes_at.ensures.put
    (puts_both n refl c.put_bytes-padding_at.ensures.behind c.put_bytes-padding_at.ensures.put
    (puts_both (length (take missing zeros)) refl c.put_bytes-len_again_at.ensures.behind c.put_bytes-len_again_at.ensures.put c.put_u32.ensures.put)) in
    subst (λ (text : List ℕ). PutsAt 0 text c.args.room.now c.put_u32.new.room) (packet_parts write wide p len missing (omega (arith, padded)) padded) put

-- A written packet is read again.
use Rattle.std.proofs.Common.{◌≡◌, ℕ, ◌<◌, ◌≤◌, ◌^◌, List, ◌++◌, refl, append_assoc, arith}
use Rattle.pcap_core.specs.declared.common.Endianness.{Endianness}
use Rattle.pcap_classic.specs.declared.common.TsResolution.{TsResolution}
use Rattle.pcap_classic.specs.declared.common.TsResolution.TheVariants.{MicroSecond, NanoSecond}
use Rattle.pcap_core.specs.Answer.{number_in}
use Rattle.pcap_core.specs.Codec.{number_bytes}
use Rattle.pcap_classic.specs.PacketText.{packet_limit, Head, RecordHeadText, IsGood, Captured, PacketText, nanoseconds}
use Rattle.pcap_classic.specs.Written.{record_bytes, fraction_of, cut, IsWhole}
use Rattle.pcap_core.proofs.Codec.{codec, number_again}

fraction_below : (r : TsResolution) (n : ℕ) → n < 2 ^ 32 → nanoseconds r (fraction_of r n) ≤ 4294967295
fraction_below MicroSecond n lt = omega arith
fraction_below NanoSecond n lt = omega arith

fraction_fits : (r : TsResolution) (n : ℕ) → n < 2 ^ 32 → fraction_of r n < 2 ^ 32
fraction_fits MicroSecond n lt = omega arith
fraction_fits NanoSecond n lt = lt

pub written_again : (e : Endianness) (r : TsResolution) (packet : Captured) (rest : List ℕ) → IsWhole packet → PacketText packet_limit (number_in e) r (cut r packet) (record_bytes (number_bytes e) r packet ++ rest) rest
written_again e r packet rest whole =
    let again = number_again (number_in e) (number_bytes e) (codec e) 4 in
    let b1 = number_bytes e 4 packet.header.ts_sec in
    let b2 = number_bytes e 4 (fraction_of r packet.header.ts_nsec) in
    let b3 = number_bytes e 4 packet.header.incl_len in
    let b4 = number_bytes e 4 packet.header.orig_len in
    let regrouped : ((b1 ++ (b2 ++ (b3 ++ b4))) ++ packet.bytes) ++ rest ≡ b1 ++ (b2 ++ (b3 ++ (b4 ++ (packet.bytes ++ rest)))) = simp append_assoc in
    let head : Head = record { seconds = packet.header.ts_sec; fraction = fraction_of r packet.header.ts_nsec; included = packet.header.incl_len; original = packet.header.orig_len } in
    let text : RecordHeadText (number_in e) head (b1 ++ (b2 ++ (b3 ++ (b4 ++ (packet.bytes ++ rest))))) (packet.bytes ++ rest) = record {
      after_seconds = b2 ++ (b3 ++ (b4 ++ (packet.bytes ++ rest)));
      after_fraction = b3 ++ (b4 ++ (packet.bytes ++ rest));
      after_included = b4 ++ (packet.bytes ++ rest);
      seconds = again packet.header.ts_sec (b2 ++ (b3 ++ (b4 ++ (packet.bytes ++ rest)))) whole.seconds;
      fraction = again (fraction_of r packet.header.ts_nsec) (b3 ++ (b4 ++ (packet.bytes ++ rest))) (fraction_fits r packet.header.ts_nsec whole.nanoseconds);
      included = again packet.header.incl_len (b4 ++ (packet.bytes ++ rest)) (omega (arith, whole.original, whole.limit));
      original = again packet.header.orig_len (packet.bytes ++ rest) (omega (arith, whole.limit));
    } in
    let good : IsGood packet_limit r head = record { fraction = fraction_below r packet.header.ts_nsec whole.nanoseconds; included = whole.original; original = whole.limit } in
    let done : PacketText packet_limit (number_in e) r (cut r packet) (b1 ++ (b2 ++ (b3 ++ (b4 ++ (packet.bytes ++ rest))))) rest = record {
      after = packet.bytes ++ rest;
      header = record { head = head; text = text; good = good; value = refl };
      data_is = refl;
      whole = whole.included;
    } in
    rw regrouped done

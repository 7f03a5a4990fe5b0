-- A written capture is read again.
use Rattle.std.proofs.Common.{◌≡◌, ℕ, ℤ, ◌<◌, ◌^◌, List, [], ◌∷◌, ◌++◌, refl, sym, subst, append_assoc, arith}
use Rattle.std.specs.Prelude.{All, map, FitsSigned}
use Rattle.std.specs.List.{flat_map}
use Rattle.std.specs.Int.{w32, cast_unsigned}
use Rattle.std.proofs.lemmas.Int.{to_z-of_z, ints}
use Rattle.std.proofs.lemmas.List.Elements.{All-tail}
use Rattle.byteorder.specs.Endian.{big_bytes}
use Rattle.pcap_core.specs.declared.common.Endianness.{Endianness}
use Rattle.pcap_core.specs.declared.common.Endianness.TheVariants.{Big}
use Rattle.pcap_classic.specs.declared.common.TsResolution.{TsResolution}
use Rattle.pcap_classic.specs.declared.pcap.header.PcapHeader.{PcapHeader}
use Rattle.pcap_core.specs.Answer.{number_in}
use Rattle.pcap_core.specs.Codec.{number_bytes}
use Rattle.pcap_classic.specs.Magic.{order_of, resolution_of}
use Rattle.pcap_classic.specs.HeaderText.{FieldsText, HeaderText}
use Rattle.pcap_core.specs.Link.{link_number}
use Rattle.pcap_classic.specs.PacketText.{packet_limit, Captured}
use Rattle.pcap_items.specs.Format.{Texts}
use Rattle.pcap_classic.specs.Packets.{packet_format, format_under}
use Rattle.pcap_classic.specs.Front.{CaptureFront}
use Rattle.pcap_classic.specs.Written.{record_bytes, written_header, capture, cut, IsWhole, IsWholeHeader}
use Rattle.pcap_core.proofs.Codec.{codec, number_again}
use Rattle.pcap_items.proofs.Formats.{nothing_no_text}
use Rattle.pcap_classic.proofs.HeadedPackets.{packets_lawful}
use Rattle.pcap_classic.proofs.ReadBack.{written_again}

bits_below : (z : ℤ) → FitsSigned w32 z → cast_unsigned w32 z < 2 ^ 32
bits_below z fits = omega (arith, ints)

header_again : (h : PcapHeader) (rest : List ℕ) → IsWholeHeader h → HeaderText h (written_header h ++ rest) rest
header_again h rest fits =
    let e = order_of h.magic_number in
    let again = number_again (number_in e) (number_bytes e) (codec e) in
    let bits = cast_unsigned w32 h.ts_correction in
    let magic = big_bytes 4 h.magic_number in
    let major = number_bytes e 2 h.version_major in
    let minor = number_bytes e 2 h.version_minor in
    let correction = number_bytes e 4 bits in
    let accuracy = number_bytes e 4 h.ts_accuracy in
    let snaplen = number_bytes e 4 h.snaplen in
    let link = number_bytes e 4 (link_number h.datalink) in
    let behind : List ℕ = major ++ (minor ++ (correction ++ (accuracy ++ (snaplen ++ (link ++ rest))))) in
    let regrouped : (magic ++ (major ++ (minor ++ (correction ++ (accuracy ++ (snaplen ++ link)))))) ++ rest ≡ magic ++ behind = simp append_assoc in
    let fields : FieldsText (number_in e) h behind rest = record {
      correction_bits = bits;
      link_number_is = link_number h.datalink;
      after_major = minor ++ (correction ++ (accuracy ++ (snaplen ++ (link ++ rest))));
      after_minor = correction ++ (accuracy ++ (snaplen ++ (link ++ rest)));
      after_correction = accuracy ++ (snaplen ++ (link ++ rest));
      after_accuracy = snaplen ++ (link ++ rest);
      after_snaplen = link ++ rest;
      major = again 2 h.version_major (minor ++ (correction ++ (accuracy ++ (snaplen ++ (link ++ rest))))) fits.major;
      minor = again 2 h.version_minor (correction ++ (accuracy ++ (snaplen ++ (link ++ rest)))) fits.minor;
      correction = again 4 bits (accuracy ++ (snaplen ++ (link ++ rest))) (bits_below h.ts_correction fits.correction);
      correction_is = sym (to_z-of_z w32 h.ts_correction fits.correction);
      accuracy = again 4 h.ts_accuracy (snaplen ++ (link ++ rest)) fits.accuracy;
      snaplen = again 4 h.snaplen (link ++ rest) fits.snaplen;
      link = again 4 (link_number h.datalink) rest fits.link;
      link_is = record { number = refl; plain = fits.plain };
    } in
    let text : HeaderText h (magic ++ behind) rest = record { after_magic = behind; valid = fits.valid; magic = number_again (number_in Big) big_bytes (codec Big) 4 h.magic_number behind fits.magic; fields = fields } in
    subst (λ (s : List ℕ). HeaderText h s rest) (sym regrouped) text

packets_again : (e : Endianness) (r : TsResolution) (packets : List Captured) → All IsWhole packets
    → Texts (packet_format packet_limit (number_in e) r) tt (map (cut r) packets) (flat_map (record_bytes (number_bytes e) r) packets) []
unfolding packet_format
packets_again e r [] each = refl
packets_again e r (packet ∷ packets) each =
    let more = flat_map (record_bytes (number_bytes e) r) packets in
    (more, written_again e r packet more (each 0 packet (omega arith)), packets_again e r packets (All-tail IsWhole packet packets each))

pub capture_again : (h : PcapHeader) (packets : List Captured) → IsWholeHeader h → All IsWhole packets
    → CaptureFront packet_limit h (map (cut (resolution_of h.magic_number)) packets) (capture h packets) []
capture_again h packets fits each =
    let e = order_of h.magic_number in
    let r = resolution_of h.magic_number in
    let after = flat_map (record_bytes (number_bytes e) r) packets in
    record {
      after = after;
      header_text = header_again h after fits;
      front = record { texts = packets_again e r packets each; longest = λ packet rest. nothing_no_text (format_under packet_limit h) (packets_lawful packet_limit (number_in e) r) tt packet rest };
    }

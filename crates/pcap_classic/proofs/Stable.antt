-- More bytes change no verdict, except that they reduce a request by their number.
use Rattle.std.proofs.Common.{ℕ, ◌-◌, ◌<◌, List, ◌++◌, length, ap, ◌∙◌, append_assoc, arith}
use Rattle.std.proofs.lemmas.List.{length-append}
use Rattle.byteorder.specs.Endian.{big_number}
use Rattle.pcap_core.specs.Faults.{Fault}
use Rattle.pcap_classic.specs.declared.common.TsResolution.{TsResolution}
use Rattle.pcap_classic.specs.declared.pcap.header.PcapHeader.{PcapHeader}
use Rattle.pcap_classic.specs.declared.pcap.packet.PacketHeader.{PacketHeader}
use Rattle.pcap_core.specs.Answer.{Number, number_in}
use Rattle.pcap_classic.specs.Magic.{order_of}
use Rattle.pcap_classic.specs.PacketText.{PacketHeaderSays, Head, RecordHeadText, PacketHeaderText, LacksHead, HasHeadFault}
use Rattle.pcap_classic.specs.HeaderText.{HeaderSays, FieldsText, HeaderText}
use Rattle.pcap_core.specs.Laws.{IsStable}

module _ (more : List ℕ) where
  number_more : (order : ℕ → List ℕ → ℕ) (w n : ℕ) (s a : List ℕ) → Number order w n s a → Number order w n (s ++ more) (a ++ more)
  number_more order w n s a p = record { bytes = p.bytes; text = ap (λ t. t ++ more) p.text ∙ append_assoc p.bytes a more; length_is = p.length_is; value = p.value }

  pub head_more : (order : ℕ → List ℕ → ℕ) (h : Head) (s a : List ℕ) → RecordHeadText order h s a → RecordHeadText order h (s ++ more) (a ++ more)
  head_more order h s a p = record {
    after_seconds = p.after_seconds ++ more;
    after_fraction = p.after_fraction ++ more;
    after_included = p.after_included ++ more;
    seconds = number_more order 4 h.seconds s p.after_seconds p.seconds;
    fraction = number_more order 4 h.fraction p.after_seconds p.after_fraction p.fraction;
    included = number_more order 4 h.included p.after_fraction p.after_included p.included;
    original = number_more order 4 h.original p.after_included a p.original;
  }

  pub packet_header_more : (limit : ℕ) (order : ℕ → List ℕ → ℕ) (r : TsResolution) (h : PacketHeader) (s a : List ℕ) → PacketHeaderText limit order r h s a → PacketHeaderText limit order r h (s ++ more) (a ++ more)
  packet_header_more limit order r h s a p = record { head = p.head; text = head_more order p.head s a p.text; good = p.good; value = p.value }

  fault_more : (limit : ℕ) (order : ℕ → List ℕ → ℕ) (r : TsResolution) (s : List ℕ) (fault : Fault) → HasHeadFault limit order r s fault → HasHeadFault limit order r (s ++ more) fault
  fault_more limit order r s fault p = record { head = p.head; after = p.after ++ more; text = head_more order p.head s p.after p.text; first = p.first }

  lacks_head_more : (s : List ℕ) (n : ℕ) → length more < n → LacksHead s n → LacksHead (s ++ more) (n - length more)
  lacks_head_more s n fewer p = record { some = omega arith; missing = omega (arith, p.missing, length-append s more) }

  fields_more : (order : ℕ → List ℕ → ℕ) (h : PcapHeader) (s a : List ℕ) → FieldsText order h s a → FieldsText order h (s ++ more) (a ++ more)
  fields_more order h s a p = record {
    correction_bits = p.correction_bits;
    link_number_is = p.link_number_is;
    after_major = p.after_major ++ more;
    after_minor = p.after_minor ++ more;
    after_correction = p.after_correction ++ more;
    after_accuracy = p.after_accuracy ++ more;
    after_snaplen = p.after_snaplen ++ more;
    major = number_more order 2 h.version_major s p.after_major p.major;
    minor = number_more order 2 h.version_minor p.after_major p.after_minor p.minor;
    correction = number_more order 4 p.correction_bits p.after_minor p.after_correction p.correction;
    correction_is = p.correction_is;
    accuracy = number_more order 4 h.ts_accuracy p.after_correction p.after_accuracy p.accuracy;
    snaplen = number_more order 4 h.snaplen p.after_accuracy p.after_snaplen p.snaplen;
    link = number_more order 4 p.link_number_is p.after_snaplen a p.link;
    link_is = p.link_is;
  }

  header_more : (h : PcapHeader) (s a : List ℕ) → HeaderText h s a → HeaderText h (s ++ more) (a ++ more)
  header_more h s a p = record {
    after_magic = p.after_magic ++ more;
    valid = p.valid;
    magic = number_more big_number 4 h.magic_number s p.after_magic p.magic;
    fields = fields_more (number_in (order_of h.magic_number)) h p.after_magic a p.fields;
  }

pub packet_header_stable : (limit : ℕ) (order : ℕ → List ℕ → ℕ) (r : TsResolution) → IsStable (PacketHeaderSays limit order r)
packet_header_stable limit order r = record {
  text = λ s more rest header h. packet_header_more more limit order r header s rest h;
  fault = λ s more fault h. fault_more more limit order r s fault h;
  request = λ s more n fewer h. lacks_head_more more s n fewer h;
}

pub header_stable : IsStable HeaderSays
header_stable = record {
  text = λ s more rest header h. header_more more header s rest h;
  fault = λ s more fault h. record { magic = h.magic; after = h.after ++ more; long = omega (arith, h.long, length-append s more); text = number_more more big_number 4 h.magic s h.after h.text; invalid = h.invalid; fault_is = h.fault_is };
  request = λ s more n fewer h. record { some = omega arith; missing = omega (arith, h.missing, length-append s more) };
}

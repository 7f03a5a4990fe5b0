-- A text has one value: no two values have texts that begin the same bytes.
use Rattle.std.proofs.Common.{◌≡◌, ℕ, ◌+◌, List, length, false, None, refl, sym, ap, ◌∙◌, arith}
use Rattle.std.specs.Prelude.{nat_lt}
use Rattle.std.proofs.lemmas.List.{length-append}
use Rattle.std.proofs.lemmas.Bool.{le-ltb}
use Rattle.pcap_classic.specs.declared.common.TsResolution.{TsResolution}
use Rattle.pcap_classic.specs.declared.pcap.packet.PacketHeader.{PacketHeader}
use Rattle.byteorder.specs.Endian.{big_number}
use Rattle.pcap_classic.specs.declared.pcap.header.PcapHeader.{PcapHeader}
use Rattle.pcap_core.specs.Answer.{number_in}
use Rattle.pcap_classic.specs.Magic.{order_of}
use Rattle.pcap_classic.specs.HeaderText.{HeaderText}
use Rattle.pcap_classic.specs.PacketText.{Head, IsGood, head_fault, spelled_header, nanoseconds, PacketHeaderText, Captured, PacketText}
use Rattle.pcap_core.proofs.Texts.{number_length}
use Rattle.pcap_classic.proofs.FieldNumbers.{head_same, head_length, fields_length}

-- A good head has no fault.
pub good_has_none : (limit : ℕ) (r : TsResolution) (head : Head) → IsGood limit r head → head_fault limit r head ≡ None
good_has_none limit r head good =
    let a : nat_lt 4294967295 (nanoseconds r head.fraction) ≡ false = le-ltb _ _ good.fraction in
    let b : nat_lt limit head.included ≡ false = le-ltb _ _ (omega (arith, good.included, good.original)) in
    let d : nat_lt limit head.original ≡ false = le-ltb _ _ good.original in
    let e : nat_lt head.original head.included ≡ false = le-ltb _ _ good.included in
    rw (a, b, d, e) refl

module _ (order : ℕ → List ℕ → ℕ) where
  pub packet_header_same : (limit : ℕ) (r : TsResolution) (h k : PacketHeader) (s a b : List ℕ) → PacketHeaderText limit order r h s a → PacketHeaderText limit order r k s b → (h ≡ k) × (a ≡ b)
  packet_header_same limit r h k s a b p q =
      let e = head_same order p.head q.head s a b p.text q.text in
      (p.value ∙ ap (spelled_header r) e.0 ∙ sym q.value, e.1)

  pub packet_length : (limit : ℕ) (r : TsResolution) (p : Captured) (s rest : List ℕ) → PacketText limit order r p s rest → length s ≡ 16 + p.header.incl_len + length rest
  packet_length limit r p s rest text =
      omega (arith, head_length order text.header.head s text.after text.header.text, ap length text.data_is, length-append p.bytes rest, text.whole)

pub header_length : (header : PcapHeader) (s rest : List ℕ) → HeaderText header s rest → length s ≡ 24 + length rest
header_length header s rest p =
    omega (arith, number_length big_number 4 header.magic_number s p.after_magic p.magic, fields_length (number_in (order_of header.magic_number)) header p.after_magic rest p.fields)

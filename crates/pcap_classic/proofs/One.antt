-- For all bytes there is exactly one verdict.
use Rattle.std.proofs.Common.{◌≡◌, ℕ, ◌-◌, Bool, true, false, cond, List, length, Option, Some, None, refl, sym, ap, ◌∙◌, arith, inl, inr}
use Rattle.std.specs.Prelude.{◌⊎◌, nat_lt, ℤ}
use Rattle.std.proofs.lemmas.Bool.{cases_lt, ltb-false}
use Rattle.byteorder.specs.Endian.{big_number}
use Rattle.pcap_core.specs.declared.rules.Rule.TheVariants.{CaptureMagic, FractionTooLarge, IncludedTooLong, OriginalTooLong, IncludedPastOriginal}
use Rattle.pcap_core.specs.Faults.{Fault, Invalid}
use Rattle.pcap_classic.specs.declared.common.TsResolution.{TsResolution}
use Rattle.pcap_core.specs.declared.link.DataLink.{DataLink}
use Rattle.pcap_classic.specs.declared.pcap.header.PcapHeader.{PcapHeader}
use Rattle.pcap_classic.specs.declared.pcap.packet.PacketHeader.{PacketHeader}
use Rattle.pcap_core.specs.Answer.{Verdict, whole, lacks, faulty, number_in}
use Rattle.pcap_classic.specs.Magic.{is_magic, order_of}
use Rattle.pcap_classic.specs.PacketText.{PacketHeaderSays, Head, RecordHeadText, IsGood, head_fault, spelled_header, nanoseconds, PacketHeaderText, LacksHead, HasHeadFault, Captured}
use Rattle.pcap_classic.specs.HeaderText.{HeaderSays, FieldsText, HeaderText, HasHeaderFault}
use Rattle.pcap_core.specs.Laws.{ExactlyOne}
use Rattle.pcap_core.proofs.Numbers.{number_there, numbers_there}
use Rattle.pcap_classic.proofs.FieldNumbers.{head_widths, head_with, head_from, head_same, head_length, field_widths, header_with, fields_from, fields_same}
use Rattle.pcap_classic.proofs.Texts.{packet_header_same, good_has_none, header_length}
use Rattle.pcap_core.proofs.Texts.{number_same, number_length}

-- ---- a head is good or has a fault

option_cases : {A : Type 0} (o : Option A) → (o ≡ None) ⊎ ((x : A) × (o ≡ Some x))
option_cases None = inl refl
option_cases (Some x) = inr (x, refl)

not_chosen : (b : Bool) (x : Fault) (o : Option Fault) → cond b (Some x) o ≡ None → (b ≡ false) × (o ≡ None)
not_chosen true x o e = absurd cc
not_chosen false x o e = (refl, e)

fault_5 : Head → Option Fault
fault_5 head = cond (nat_lt head.original head.included) (Some (Invalid IncludedPastOriginal)) None

fault_4 : ℕ → Head → Option Fault
fault_4 limit head = cond (nat_lt limit head.original) (Some (Invalid OriginalTooLong)) (fault_5 head)

fault_3 : ℕ → Head → Option Fault
fault_3 limit head = cond (nat_lt limit head.included) (Some (Invalid IncludedTooLong)) (fault_4 limit head)

none_is_good : (limit : ℕ) (r : TsResolution) (head : Head) → head_fault limit r head ≡ None → IsGood limit r head
unfolding fault_3 fault_4 fault_5
none_is_good limit r head e =
    let a = not_chosen (nat_lt 4294967295 (nanoseconds r head.fraction)) (Invalid FractionTooLarge) (fault_3 limit head) e in
    let b = not_chosen (nat_lt limit head.included) (Invalid IncludedTooLong) (fault_4 limit head) a.1 in
    let d = not_chosen (nat_lt limit head.original) (Invalid OriginalTooLong) (fault_5 head) b.1 in
    let f = not_chosen (nat_lt head.original head.included) (Invalid IncludedPastOriginal) None d.1 in
    record { fraction = ltb-false _ _ a.0; included = ltb-false _ _ f.0; original = ltb-false _ _ d.0 }

-- ---- no two verdicts hold at once

lacks_head_no_head : (order : ℕ → List ℕ → ℕ) (s : List ℕ) (n : ℕ) (head : Head) (rest : List ℕ) → LacksHead s n → RecordHeadText order head s rest → ⊥
lacks_head_no_head order s n head rest p text = omega (arith, p.missing, p.some, head_length order head s rest text)

good_no_fault : (limit : ℕ) (order : ℕ → List ℕ → ℕ) (r : TsResolution) (s : List ℕ) (header : PacketHeader) (rest : List ℕ) (fault : Fault) → PacketHeaderText limit order r header s rest → HasHeadFault limit order r s fault → ⊥
good_no_fault limit order r s header rest fault text wrong =
    let e = head_same order wrong.head text.head s wrong.after rest wrong.text text.text in
    let none : head_fault limit r wrong.head ≡ None = ap (head_fault limit r) e.0 ∙ good_has_none limit r text.head text.good in
    let some : head_fault limit r wrong.head ≡ Some fault = wrong.first in
    cc

fault_same : (limit : ℕ) (order : ℕ → List ℕ → ℕ) (r : TsResolution) (s : List ℕ) (f g : Fault) → HasHeadFault limit order r s f → HasHeadFault limit order r s g → f ≡ g
fault_same limit order r s f g p q =
    let e = head_same order p.head q.head s p.after q.after p.text q.text in
    let a : head_fault limit r p.head ≡ Some f = p.first in
    let b : head_fault limit r p.head ≡ Some g = ap (head_fault limit r) e.0 ∙ q.first in
    cc

make_captured : PacketHeader → List ℕ → Captured
make_captured h bytes = record { header = h; bytes = bytes }

pub captured_is : (p q : Captured) → p.header ≡ q.header → p.bytes ≡ q.bytes → p ≡ q
unfolding make_captured
captured_is p q a b = let t : make_captured p.header p.bytes ≡ make_captured q.header q.bytes = rw (a, b) refl in t

-- ---- a packet's header

packet_header_only : (limit : ℕ) (order : ℕ → List ℕ → ℕ) (r : TsResolution) (s : List ℕ) (v w : Verdict PacketHeader) → PacketHeaderSays limit order r s v → PacketHeaderSays limit order r s w → v ≡ w
packet_header_only limit order r s (whole p a) (whole q b) x y = let e = packet_header_same order limit r p q s a b x y in rw (e.0, e.1) refl
packet_header_only limit order r s (whole p a) (lacks m) x y = absurd (lacks_head_no_head order s m x.head a y x.text)
packet_header_only limit order r s (whole p a) (faulty g) x y = absurd (good_no_fault limit order r s p a g x y)
packet_header_only limit order r s (lacks n) (whole q b) x y = absurd (lacks_head_no_head order s n y.head b x y.text)
packet_header_only limit order r s (lacks n) (lacks m) x y = let e : n ≡ m = omega (arith, x.missing, y.missing) in rw e refl
packet_header_only limit order r s (lacks n) (faulty g) x y = absurd (lacks_head_no_head order s n y.head y.after x y.text)
packet_header_only limit order r s (faulty f) (whole q b) x y = absurd (good_no_fault limit order r s q b f y x)
packet_header_only limit order r s (faulty f) (lacks m) x y = absurd (lacks_head_no_head order s m x.head x.after y x.text)
packet_header_only limit order r s (faulty f) (faulty g) x y = let e = fault_same limit order r s f g x y in rw e refl

packet_header_there : (limit : ℕ) (order : ℕ → List ℕ → ℕ) (r : TsResolution) (s : List ℕ) → (v : Verdict PacketHeader) × PacketHeaderSays limit order r s v
packet_header_there limit order r s =
    elim (cases_lt (length s) 16) [
      | inl short ↦ (lacks (16 - length s), record { some = omega arith; missing = omega arith })
      | inr long ↦
          let t = numbers_there order head_widths s long in
          let head = head_with t.0 in
          let text = head_from order t.0 s t.1 t.2 in
          elim (option_cases (head_fault limit r head)) [
            | inr f ↦ (faulty f.0, record { head = head; after = t.1; text = text; first = f.1 })
            | inl none ↦ (whole (spelled_header r head) t.1, record { head = head; text = text; good = none_is_good limit r head none; value = refl })
          ]
    ]

pub packet_header_one : (limit : ℕ) (order : ℕ → List ℕ → ℕ) (r : TsResolution) (s : List ℕ) → ExactlyOne (PacketHeaderSays limit order r s)
packet_header_one limit order r s =
    let v = packet_header_there limit order r s in
    record { value = v.0; holds = v.1; only = λ w h. packet_header_only limit order r s w v.0 h v.1 }

-- ---- a capture's header

make_header : ℕ → ℕ → ℕ → ℤ → ℕ → ℕ → DataLink → PcapHeader
make_header a b d e f g h = record { magic_number = a; version_major = b; version_minor = d; ts_correction = e; ts_accuracy = f; snaplen = g; datalink = h }

pub header_is : (p q : PcapHeader) → p.magic_number ≡ q.magic_number → p.version_major ≡ q.version_major → p.version_minor ≡ q.version_minor → p.ts_correction ≡ q.ts_correction
    → p.ts_accuracy ≡ q.ts_accuracy → p.snaplen ≡ q.snaplen → p.datalink ≡ q.datalink → p ≡ q
unfolding make_header
header_is p q a b d e f g h =
    let made : make_header p.magic_number p.version_major p.version_minor p.ts_correction p.ts_accuracy p.snaplen p.datalink
    ≡ make_header q.magic_number q.version_major q.version_minor q.ts_correction q.ts_accuracy q.snaplen q.datalink = rw (a, b, d, e, f, g, h) refl in
    made

pub header_same : (p q : PcapHeader) (s a b : List ℕ) → HeaderText p s a → HeaderText q s b → (p ≡ q) × (a ≡ b)
header_same p q s a b x y =
    let m = number_same big_number 4 p.magic_number q.magic_number s x.after_magic y.after_magic x.magic y.magic in
    let order = number_in (order_of q.magic_number) in
    let fields : FieldsText order p y.after_magic a = rw (← m.0, ← m.1) x.fields in
    fields_same order p q y.after_magic a b m.0 fields y.fields

true_or_false : (b : Bool) → (b ≡ true) ⊎ (b ≡ false)
true_or_false true = inl refl
true_or_false false = inr refl

valid_no_fault : (h : PcapHeader) (s rest : List ℕ) (fault : Fault) → HeaderText h s rest → HasHeaderFault s fault → ⊥
valid_no_fault h s rest fault text wrong =
    let m = number_same big_number 4 h.magic_number wrong.magic s text.after_magic wrong.after text.magic wrong.text in
    let valid : is_magic h.magic_number ≡ true = text.valid in
    let invalid : is_magic h.magic_number ≡ false = ap is_magic m.0 ∙ wrong.invalid in
    cc

header_only : (s : List ℕ) (v w : Verdict PcapHeader) → HeaderSays s v → HeaderSays s w → v ≡ w
header_only s (whole p a) (whole q b) x y = let e = header_same p q s a b x y in rw (e.0, e.1) refl
header_only s (whole p a) (lacks m) x y = absurd (omega (arith, y.missing, y.some, header_length p s a x))
header_only s (whole p a) (faulty g) x y = absurd (valid_no_fault p s a g x y)
header_only s (lacks n) (whole q b) x y = absurd (omega (arith, x.missing, x.some, header_length q s b y))
header_only s (lacks n) (lacks m) x y = let e : n ≡ m = omega (arith, x.missing, y.missing) in rw e refl
header_only s (lacks n) (faulty g) x y = absurd (omega (arith, x.missing, x.some, y.long))
header_only s (faulty f) (whole q b) x y = absurd (valid_no_fault q s b f y x)
header_only s (faulty f) (lacks m) x y = absurd (omega (arith, y.missing, y.some, x.long))
header_only s (faulty f) (faulty g) x y = let e : f ≡ g = x.fault_is ∙ sym y.fault_is in rw e refl

header_there : (s : List ℕ) → (v : Verdict PcapHeader) × HeaderSays s v
header_there s =
    elim (cases_lt (length s) 24) [
      | inl short ↦ (lacks (24 - length s), record { some = omega arith; missing = omega arith })
      | inr long ↦
          let m = number_there big_number 4 s (omega arith) in
          let lm = number_length big_number 4 m.0 s m.1 m.2 in
          elim (true_or_false (is_magic m.0)) [
            | inr invalid ↦ (faulty (Invalid CaptureMagic), record { magic = m.0; after = m.1; long = long; text = m.2; invalid = invalid; fault_is = refl })
            | inl valid ↦
                let order = number_in (order_of m.0) in
                let t = numbers_there order field_widths m.1 (omega (arith, lm)) in
                (whole (header_with m.0 t.0) t.1, record { after_magic = m.1; valid = valid; magic = m.2; fields = fields_from order m.0 t.0 m.1 t.1 t.2 })
          ]
    ]

pub header_one : (s : List ℕ) → ExactlyOne (HeaderSays s)
header_one s =
    let v = header_there s in
    record { value = v.0; holds = v.1; only = λ w h. header_only s w v.0 h v.1 }

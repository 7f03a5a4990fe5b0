-- Any bytes have exactly one reading as a name record.
use Rattle.std.proofs.Common.{◌≡◌, ℕ, ◌+◌, ◌<◌, ◌≤◌, List, [], ◌∷◌, ◌++◌, length, take, drop, refl, sym, ap, subst, ◌∙◌, arith, append_assoc, inl, inr}
use Rattle.std.proofs.lemmas.List.{take-append-drop, length-take, length-append}
use Rattle.std.proofs.lemmas.Bool.{cases_lt}
use Rattle.pcap_core.specs.Answer.{Order, Verdict, whole, lacks, faulty, Made}
use Rattle.pcap_core.specs.Faults.{Fault, Invalid, Io}
use Rattle.pcap_core.specs.Laws.{ExactlyOne}
use Rattle.pcap_core.specs.declared.rules.Rule.{Rule}
use Rattle.pcap_core.specs.declared.rules.Rule.TheVariants.{RecordCut, EndNotEmpty, RecordUnpadded}
use Rattle.pcap_core.proofs.Texts.{split_same}
use Rattle.pcap_core.specs.Padded.{Padded, up_to_4}
use Rattle.pcap_options.specs.Options.{CodeLengthText}
use Rattle.pcap_options.specs.Names.{NamesSay}
use Rattle.pcap_options.specs.Record.{Address, AddressText, short, in_names, AddressSays, NameRecord, End, Other, Form, no_value, address, any_value, form_of, RecordValueSays, RecordFault, cut, wrong, unpadded, RecordSays}
use Rattle.pcap_options.proofs.ReadOptions.{head_with}
use Rattle.pcap_core.proofs.Verdicts.{one_moved, Then, one_then, one_made}
use Rattle.pcap_core.proofs.Numbers.{NumbersSay, numbers_one}
use Rattle.pcap_options.proofs.OneName.{names_one}
use Rattle.pcap_options.proofs.OneVerdict.{IsDecided, one_said}
use Rattle.pcap_options.proofs.OneOption.{widths, head_to, head_from}
use Rattle.pcap_options.proofs.NameRecords.{same_padded}
use Rattle.pcap_core.proofs.OnePadded.{PaddedSays, padded_one, padded_same, no_short_padded}

-- `n` bytes, or a fault if fewer are left.
BytesSay : Fault → ℕ → List ℕ → Verdict (List ℕ) → Type 0
BytesSay too_few n s (whole v rest) = (s ≡ v ++ rest) × (length v ≡ n)
BytesSay too_few n s (lacks m) = ⊥
BytesSay too_few n s (faulty f) = (f ≡ too_few) × (length s < n)

bytes_one : (too_few : Fault) (n : ℕ) (s : List ℕ) → ExactlyOne (BytesSay too_few n s)
unfolding BytesSay
bytes_one too_few n s =
    let is : IsDecided (BytesSay too_few n s) = record {
      wholes = λ p q a b x y. split_same q b p a (y.1 ∙ sym x.1) (sym y.0 ∙ x.0);
      faults = λ f g x y. y.0 ∙ sym x.0;
      not_both = λ p a f x y. absurd (omega (arith, ap length x.0, length-append p a, x.1, y.1));
      no_lack = λ m x. x;
    } in
    elim (cases_lt (length s) n) [
      | inl lt ↦ one_said (BytesSay too_few n s) is (faulty too_few) (refl, lt)
      | inr long ↦ one_said (BytesSay too_few n s) is (whole (take n s) (drop n s)) (sym (take-append-drop n s), omega (arith, length-take n s))
    ]

-- ---- an address and its names

WidthSays : ℕ → Rule → List ℕ → Verdict (List ℕ) → Type 0
WidthSays width too_short s (whole bytes after) = (width + 2 ≤ length s) × (s ≡ bytes ++ after) × (length bytes ≡ width)
WidthSays width too_short s (lacks n) = ⊥
WidthSays width too_short s (faulty f) = (f ≡ Invalid too_short) × (length s < width + 2)

width_one : (width : ℕ) (too_short : Rule) (s : List ℕ) → ExactlyOne (WidthSays width too_short s)
unfolding WidthSays
width_one width too_short s =
    let is : IsDecided (WidthSays width too_short s) = record {
      wholes = λ p q a b x y. split_same q b p a (y.2 ∙ sym x.2) (sym y.1 ∙ x.1);
      faults = λ f g x y. y.0 ∙ sym x.0;
      not_both = λ p a f x y. absurd (omega (arith, x.0, y.1));
      no_lack = λ n x. x;
    } in
    elim (cases_lt (length s) (width + 2)) [
      | inl lt ↦ one_said (WidthSays width too_short s) is (faulty (Invalid too_short)) (refl, lt)
      | inr long ↦ one_said (WidthSays width too_short s) is (whole (take width s) (drop width s)) (long, sym (take-append-drop width s), omega (arith, length-take width s))
    ]

address_at : List ℕ → List (List ℕ) → Address
address_at bytes names = record { bytes = bytes; names = names }

AddressThen : ℕ → Rule → List ℕ → Verdict Address → Type 0
AddressThen width too_short s = Then (WidthSays width too_short s) (λ bytes after. Made (address_at bytes) (NamesSay after))

address_to : (width : ℕ) (too_short : Rule) (s : List ℕ) (w : Verdict Address) → AddressSays width too_short s w → AddressThen width too_short s w
unfolding AddressThen WidthSays address_at
address_to width too_short s (whole a rest) h = (a.bytes, h.after, (h.long, h.parts, h.wide), (a.names, refl, h.names_are))
address_to width too_short s (lacks n) h = absurd h
address_to width too_short s (faulty f) (short lt) = inl (refl, lt)
address_to width too_short s (faulty f) (in_names _ after long behind fault) = inr (behind.bytes, after, (long, behind.text, behind.length_is), fault)

address_from : (width : ℕ) (too_short : Rule) (s : List ℕ) (w : Verdict Address) → AddressThen width too_short s w → AddressSays width too_short s w
unfolding AddressThen WidthSays address_at
address_from width too_short s (whole a rest) t =
    let made : AddressText width (address_at t.0 t.3.0) s rest = record { after = t.1; long = t.2.0; parts = t.2.1; wide = t.2.2; names_are = t.3.2 } in
    subst (λ (x : Address). AddressText width x s rest) (sym t.3.1) made
address_from width too_short s (lacks n) (inl t) = t
address_from width too_short s (lacks n) (inr t) = t.3
address_from width too_short s (faulty f) (inl t) = rw t.0 (short t.1)
address_from width too_short s (faulty f) (inr t) = in_names f t.1 t.2.0 (record { bytes = t.0; text = t.2.1; length_is = t.2.2 }) t.3

pub address_one : (width : ℕ) (too_short : Rule) (s : List ℕ) → ExactlyOne (AddressSays width too_short s)
unfolding AddressThen
address_one width too_short s =
    one_moved (AddressSays width too_short s) (AddressThen width too_short s) (address_to width too_short s) (address_from width too_short s)
    (one_then (WidthSays width too_short s) (λ bytes after. Made (address_at bytes) (NamesSay after)) (width_one width too_short s) (λ bytes after h. one_made (address_at bytes) (NamesSay after) (names_one after)))

-- ---- a value

no_value_decided : (v : List ℕ) → IsDecided (RecordValueSays no_value v)
no_value_decided v = record { wholes = λ x y a b h k. (k.0 ∙ sym h.0, k.2 ∙ sym h.2); faults = λ f g h k. k.0 ∙ sym h.0; not_both = λ x a f h k. k.1 h.1; no_lack = λ n h. h }

no_value_one : (v : List ℕ) → ExactlyOne (RecordValueSays no_value v)
no_value_one [] = one_said (RecordValueSays no_value []) (no_value_decided []) (whole End []) (refl, refl, refl)
no_value_one (b ∷ v) = one_said (RecordValueSays no_value (b ∷ v)) (no_value_decided (b ∷ v)) (faulty (Invalid EndNotEmpty)) (refl, λ e. cc)

any_value_only : (type : ℕ) (v : List ℕ) (y : Verdict NameRecord) → RecordValueSays (any_value type) v y → y ≡ whole (Other type (length v) v) []
any_value_only type v (whole q b) k = rw (k.0, k.1) refl
any_value_only type v (lacks n) k = absurd k
any_value_only type v (faulty g) k = absurd k

pub value_one : (form : Form) (v : List ℕ) → ExactlyOne (RecordValueSays form v)
value_one no_value v = no_value_one v
value_one (address width too_short make) v = one_made make (AddressSays width too_short v) (address_one width too_short v)
value_one (any_value type) v = record { value = whole (Other type (length v) v) []; holds = (refl, refl); only = any_value_only type v }

-- A value takes all of its bytes.
value_ends : (form : Form) (v : List ℕ) (r : NameRecord) (rest : List ℕ) → RecordValueSays form v (whole r rest) → rest ≡ []
value_ends no_value v r rest h = h.2
value_ends (address width too_short make) v r rest h = h.2.names_are.nothing_left
value_ends (any_value type) v r rest h = h.1

-- ---- a record

-- The verdict on the padding after a value.
PadSays : NameRecord → List ℕ → List ℕ → Verdict NameRecord → Type 0
PadSays r v s (whole q rest) = (q ≡ r) × Padded v s rest
PadSays r v s (lacks n) = ⊥
PadSays r v s (faulty f) = (f ≡ Invalid RecordUnpadded) × (length s < up_to_4 (length v))

ValueThen : ℕ → List ℕ → List ℕ → Verdict NameRecord → Type 0
ValueThen type v after = Then (RecordValueSays (form_of type) v) (λ r none. PadSays r v after)

BytesThen : ℕ → ℕ → List ℕ → Verdict NameRecord → Type 0
BytesThen type len after = Then (BytesSay (Invalid RecordCut) len after) (λ v more. ValueThen type v after)

RecordThen : Order → List ℕ → Verdict NameRecord → Type 0
RecordThen order s = Then (NumbersSay order Io widths s) (λ ns after. BytesThen ns.0 ns.1.0 after)

pad_decided : (r : NameRecord) (v s : List ℕ) → IsDecided (PadSays r v s)
unfolding PadSays
pad_decided r v s = record {
  wholes = λ p q a b h k. (k.0 ∙ sym h.0, (padded_same v v s b a refl k.1 h.1).1);
  faults = λ f g h k. k.0 ∙ sym h.0;
  not_both = λ p a f h k. absurd (no_short_padded v s a (length v) h.1 refl k.1);
  no_lack = λ n h. h;
}

-- The verdict on the padding follows from the padding of any bytes of the same length.
pad_there : (r : NameRecord) (v more s : List ℕ) → s ≡ v ++ more → (w : Verdict (List ℕ)) → PaddedSays (Invalid RecordUnpadded) (length v) s w → (x : Verdict NameRecord) × PadSays r v s x
unfolding PadSays
pad_there r v more s parts (whole p a) h = (whole r a, (refl, same_padded v p s more a parts (sym h.1) h.0))
pad_there r v more s parts (lacks n) h = absurd h
pad_there r v more s parts (faulty f) h = (faulty f, h)

pad_one : (r : NameRecord) (v more s : List ℕ) → s ≡ v ++ more → ExactlyOne (PadSays r v s)
pad_one r v more s parts =
    let one = padded_one (Invalid RecordUnpadded) (length v) s in
    let x = pad_there r v more s parts one.value one.holds in
    one_said (PadSays r v s) (pad_decided r v s) x.0 x.1

value_then_one : (type : ℕ) (v more after : List ℕ) → after ≡ v ++ more → ExactlyOne (ValueThen type v after)
unfolding ValueThen
value_then_one type v more after parts = one_then (RecordValueSays (form_of type) v) (λ r none. PadSays r v after) (value_one (form_of type) v) (λ r none h. pad_one r v more after parts)

bytes_then_one : (type len : ℕ) (after : List ℕ) → ExactlyOne (BytesThen type len after)
unfolding BytesThen BytesSay
bytes_then_one type len after = one_then (BytesSay (Invalid RecordCut) len after) (λ v more. ValueThen type v after) (bytes_one (Invalid RecordCut) len after) (λ v more h. value_then_one type v more after h.0)

record_then_one : (order : Order) (s : List ℕ) → ExactlyOne (RecordThen order s)
unfolding RecordThen
record_then_one order s = one_then (NumbersSay order Io widths s) (λ ns after. BytesThen ns.0 ns.1.0 after) (numbers_one order Io widths s) (λ ns after k. bytes_then_one ns.0 ns.1.0 after)

-- A padded value is at the front of its bytes.
before_rest : (v s rest : List ℕ) → Padded v s rest → (more : List ℕ) × (s ≡ v ++ more)
before_rest v s rest p = (p.padding ++ rest, p.text ∙ append_assoc v p.padding rest)

record_to : (order : Order) (s : List ℕ) (w : Verdict NameRecord) → RecordSays order s w → RecordThen order s w
unfolding RecordThen BytesThen BytesSay ValueThen PadSays
record_to order s (whole r rest) h =
    let b = before_rest h.v h.after rest h.padded in
    ((h.type, (length h.v, tt)), h.after, head_to order h.type (length h.v) s h.after h.head, (h.v, b.0, (b.1, refl), (r, [], h.value_is, (refl, h.padded))))
record_to order s (lacks n) h = absurd h
record_to order s (faulty f) (short lt) = inl (refl, lt)
record_to order s (faulty f) (cut type len after h lt) = inr ((type, (len, tt)), after, head_to order type len s after h, inl (refl, lt))
record_to order s (faulty f) (wrong _ type v after more h parts fault) = inr ((type, (length v, tt)), after, head_to order type (length v) s after h, inr (v, more, (parts, refl), inl fault))
record_to order s (faulty f) (unpadded r type v after more h parts value lt) = inr ((type, (length v, tt)), after, head_to order type (length v) s after h, inr (v, more, (parts, refl), inr (r, [], value, (refl, lt))))

record_fault : (order : Order) (s : List ℕ) (f : Fault) (type len : ℕ) (after : List ℕ) → CodeLengthText order type len s after → BytesThen type len after (faulty f) → RecordFault order s f
unfolding BytesThen BytesSay ValueThen PadSays
record_fault order s f type len after h (inl t) = rw t.0 (cut type len after h t.1)
record_fault order s f type len after h (inr (v, more, b, inl t)) = wrong f type v after more (head_with order type len v s after h b.1) b.0 t
record_fault order s f type len after h (inr (v, more, b, inr t)) =
    let none = value_ends (form_of type) v t.0 t.1 t.2 in
    let value : RecordValueSays (form_of type) v (whole t.0 []) = subst (λ (x : List ℕ). RecordValueSays (form_of type) v (whole t.0 x)) none t.2 in
    rw t.3.0 (unpadded t.0 type v after more (head_with order type len v s after h b.1) b.0 value t.3.1)

value_no_lack : (form : Form) (v : List ℕ) (n : ℕ) → RecordValueSays form v (lacks n) → ⊥
value_no_lack no_value v n h = h
value_no_lack (address width too_short make) v n h = h
value_no_lack (any_value type) v n h = h

bytes_no_lack : (type len : ℕ) (after : List ℕ) (n : ℕ) → BytesThen type len after (lacks n) → ⊥
unfolding BytesThen BytesSay ValueThen PadSays
bytes_no_lack type len after n (inl t) = t
bytes_no_lack type len after n (inr (v, more, b, inl t)) = value_no_lack (form_of type) v n t
bytes_no_lack type len after n (inr (v, more, b, inr t)) = t.3

record_from : (order : Order) (s : List ℕ) (w : Verdict NameRecord) → RecordThen order s w → RecordSays order s w
unfolding RecordThen BytesThen BytesSay ValueThen PadSays
record_from order s (whole r rest) t =
    let b = t.3 in
    let v = b.3 in
    let none = value_ends (form_of t.0.0) b.0 v.0 v.1 v.2 in
    let value : RecordValueSays (form_of t.0.0) b.0 (whole r []) = subst (λ (q : NameRecord). RecordValueSays (form_of t.0.0) b.0 (whole q [])) (sym v.3.0) (subst (λ (x : List ℕ). RecordValueSays (form_of t.0.0) b.0 (whole v.0 x)) none v.2) in
    record { type = t.0.0; v = b.0; after = t.1; head = head_with order t.0.0 t.0.1.0 b.0 s t.1 (head_from order t.0 s t.1 t.2) b.2.1; value_is = value; padded = v.3.1 }
record_from order s (lacks n) (inl t) = t
record_from order s (lacks n) (inr t) = bytes_no_lack t.0.0 t.0.1.0 t.1 n t.3
record_from order s (faulty f) (inl t) = rw t.0 (short t.1)
record_from order s (faulty f) (inr t) = record_fault order s f t.0.0 t.0.1.0 t.1 (head_from order t.0 s t.1 t.2) t.3

pub record_one : (order : Order) (s : List ℕ) → ExactlyOne (RecordSays order s)
record_one order s = one_moved (RecordSays order s) (RecordThen order s) (record_to order s) (record_from order s) (record_then_one order s)

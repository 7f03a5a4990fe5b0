-- Any bytes have exactly one reading as a value, and as an option or the end-of-options option.
use Rattle.std.proofs.Common.{◌≡◌, ◌≢◌, ℕ, suc, zero, ◌<◌, List, [], ◌∷◌, length, Option, Some, None, Result, Ok, Err, refl, sym, ap, subst, ◌∙◌, arith, inl, inr}
use Rattle.pcap_core.specs.Answer.{Order, Verdict, whole, lacks, faulty}
use Rattle.pcap_core.specs.Faults.{Fault, Invalid}
use Rattle.pcap_core.specs.Laws.{ExactlyOne}
use Rattle.pcap_core.specs.declared.rules.Rule.TheVariants.{OptionTooShort, OptionCut}
use Rattle.pcap_core.specs.Padded.{Padded, up_to_4}
use Rattle.pcap_options.specs.Values.{Kind, Entry, Value, Shape, shape_at, value_of, EntrySays}
use Rattle.pcap_options.specs.Options.{CodeLengthText, OptionText, OptionFault, short, cut, wrong, OptionSays}
use Rattle.pcap_options.proofs.ReadOptions.{head_with}
use Rattle.pcap_options.proofs.OneVerdict.{IsDecided, one_said}
use Rattle.pcap_core.proofs.Verdicts.{one_moved, Then, one_then}
use Rattle.pcap_core.proofs.Numbers.{Values, Numbers, NumbersSay, numbers_one}
use Rattle.pcap_core.proofs.OnePadded.{PaddedSays, padded_one}
use Rattle.pcap_core.proofs.Verdicts.{whole_same}

entry : ℕ → Value → Entry
entry c v = record { code = c; value = v }

-- A value has at most one reading.
entry_decided : (order : Order) (shape : Shape) (code : ℕ) (v : List ℕ) → IsDecided (EntrySays order shape code v)
unfolding entry
entry_decided order shape code v = record {
  wholes = λ o p a b h k.
      let both = sym h.1 ∙ k.1 in
      let value : p.value ≡ o.value = cc in
      let same : entry p.code p.value ≡ entry o.code o.value = rw (h.0, k.0, value) refl in
      (same, k.2 ∙ sym h.2);
  faults = λ f g h k. let both = sym h ∙ k in cc;
  not_both = λ o a f h k. let both = sym h.1 ∙ k in absurd cc;
  no_lack = λ n h. h;
}

entry_of : (order : Order) (shape : Shape) (code : ℕ) (v : List ℕ) (r : Result Value Fault) → value_of order shape v ≡ r → ExactlyOne (EntrySays order shape code v)
unfolding entry
entry_of order shape code v (Ok x) is = one_said (EntrySays order shape code v) (entry_decided order shape code v) (whole (entry code x) []) (refl, is, refl)
entry_of order shape code v (Err f) is = one_said (EntrySays order shape code v) (entry_decided order shape code v) (faulty f) is

pub entry_one : (order : Order) (shape : Shape) (code : ℕ) (v : List ℕ) → ExactlyOne (EntrySays order shape code v)
entry_one order shape code v = entry_of order shape code v (value_of order shape v) refl

-- The option that a value of this code gives, with what follows it.
PieceSays : Order → Kind → ℕ → List ℕ → List ℕ → Verdict (Option Entry) → Type 0
PieceSays order kind code v after (whole p rest) = (x : Value) × (value_of order (shape_at kind code) v ≡ Ok x) × (p ≡ Some (entry code x)) × (rest ≡ after)
PieceSays order kind code v after (lacks n) = ⊥
PieceSays order kind code v after (faulty f) = value_of order (shape_at kind code) v ≡ Err f

piece_decided : (order : Order) (kind : Kind) (code : ℕ) (v after : List ℕ) → IsDecided (PieceSays order kind code v after)
unfolding PieceSays
piece_decided order kind code v after = record {
  wholes = λ p q a b h k. let both = sym h.1 ∙ k.1 in let same : k.0 ≡ h.0 = cc in (k.2 ∙ ap (λ (x : Value). Some (entry code x)) same ∙ sym h.2, k.3 ∙ sym h.3);
  faults = λ f g h k. let both = sym h ∙ k in cc;
  not_both = λ p a f h k. let both = sym h.1 ∙ k in absurd cc;
  no_lack = λ n h. h;
}

piece_of : (order : Order) (kind : Kind) (code : ℕ) (v after : List ℕ) (r : Result Value Fault) → value_of order (shape_at kind code) v ≡ r → ExactlyOne (PieceSays order kind code v after)
unfolding PieceSays
piece_of order kind code v after (Ok x) is = one_said (PieceSays order kind code v after) (piece_decided order kind code v after) (whole (Some (entry code x)) after) (x, is, refl, refl)
piece_of order kind code v after (Err f) is = one_said (PieceSays order kind code v after) (piece_decided order kind code v after) (faulty f) is

-- The verdict on what follows an option's code and length.
AfterHead : Order → Kind → ℕ → ℕ → List ℕ → Verdict (Option Entry) → Type 0
AfterHead order kind zero len after w = w ≡ whole None after
AfterHead order kind (suc c) len after w = Then (PaddedSays (Invalid OptionCut) len after) (λ v rest. PieceSays order kind (suc c) v rest) w

after_one : (order : Order) (kind : Kind) (code len : ℕ) (after : List ℕ) → ExactlyOne (AfterHead order kind code len after)
unfolding AfterHead
after_one order kind zero len after = record { value = whole None after; holds = refl; only = λ w k. k }
after_one order kind (suc c) len after =
    one_then (PaddedSays (Invalid OptionCut) len after) (λ v rest. PieceSays order kind (suc c) v rest) (padded_one (Invalid OptionCut) len after) (λ v rest h. piece_of order kind (suc c) v rest (value_of order (shape_at kind (suc c)) v) refl)

-- The widths of a code and a length.
abbrev pub widths : List ℕ
widths = 2 ∷ 2 ∷ []

OptionThen : Order → Kind → List ℕ → Verdict (Option Entry) → Type 0
OptionThen order kind s = Then (NumbersSay order (Invalid OptionTooShort) widths s) (λ ns after. AfterHead order kind ns.0 ns.1.0 after)

option_then_one : (order : Order) (kind : Kind) (s : List ℕ) → ExactlyOne (OptionThen order kind s)
unfolding OptionThen
option_then_one order kind s = one_then (NumbersSay order (Invalid OptionTooShort) widths s) (λ ns after. AfterHead order kind ns.0 ns.1.0 after) (numbers_one order (Invalid OptionTooShort) widths s) (λ ns after k. after_one order kind ns.0 ns.1.0 after)

pub head_to : (order : Order) (code len : ℕ) (s rest : List ℕ) → CodeLengthText order code len s rest → Numbers order widths (code, (len, tt)) s rest
head_to order code len s rest h = (h.after_code, h.code_is, (rest, h.length_is, refl))

pub head_from : (order : Order) (ns : Values widths) (s rest : List ℕ) → Numbers order widths ns s rest → CodeLengthText order ns.0 ns.1.0 s rest
head_from order ns s rest t = subst (λ (x : List ℕ). CodeLengthText order ns.0 ns.1.0 s x) t.2.2 (record { after_code = t.0; code_is = t.1; length_is = t.2.1 })

after_option : (order : Order) (kind : Kind) (code : ℕ) (v after rest : List ℕ) (x : Value) → code ≢ 0 → Padded v after rest → value_of order (shape_at kind code) v ≡ Ok x → AfterHead order kind code (length v) after (whole (Some (entry code x)) rest)
unfolding AfterHead PieceSays
after_option order kind zero v after rest x ne p is = absurd (ne refl)
after_option order kind (suc c) v after rest x ne p is = (v, rest, (p, refl), (x, is, refl, refl))

after_cut : (order : Order) (kind : Kind) (code len : ℕ) (after : List ℕ) → code ≢ 0 → length after < up_to_4 len → AfterHead order kind code len after (faulty (Invalid OptionCut))
unfolding AfterHead
after_cut order kind zero len after ne lt = absurd (ne refl)
after_cut order kind (suc c) len after ne lt = inl (refl, lt)

after_wrong : (order : Order) (kind : Kind) (code : ℕ) (v after rest : List ℕ) (f : Fault) → code ≢ 0 → Padded v after rest → value_of order (shape_at kind code) v ≡ Err f → AfterHead order kind code (length v) after (faulty f)
unfolding AfterHead PieceSays
after_wrong order kind zero v after rest f ne p is = absurd (ne refl)
after_wrong order kind (suc c) v after rest f ne p is = inr (v, rest, (p, refl), is)

option_to : (order : Order) (kind : Kind) (s : List ℕ) (w : Verdict (Option Entry)) → OptionSays order kind s w → OptionThen order kind s w
unfolding OptionThen AfterHead entry
option_to order kind s (whole None rest) h = ((0, (h.ignored, tt)), rest, head_to order 0 h.ignored s rest h.head, refl)
option_to order kind s (whole (Some o) rest) h =
    ((o.code, (length h.v, tt)), h.after_head, head_to order o.code (length h.v) s h.after_head h.head, after_option order kind o.code h.v h.after_head rest o.value h.no_mark h.padded h.value_is)
option_to order kind s (lacks n) h = absurd h
option_to order kind s (faulty f) (short lt) = inl (refl, lt)
option_to order kind s (faulty f) (cut code len rest h ne lt) = inr ((code, (len, tt)), rest, head_to order code len s rest h, after_cut order kind code len rest ne lt)
option_to order kind s (faulty f) (wrong _ code v after rest h ne p is) = inr ((code, (length v, tt)), after, head_to order code (length v) s after h, after_wrong order kind code v after rest f ne p is)

from_whole : (order : Order) (kind : Kind) (s : List ℕ) (code len : ℕ) (after : List ℕ) → CodeLengthText order code len s after → (p : Option Entry) (rest : List ℕ) → AfterHead order kind code len after (whole p rest) → OptionSays order kind s (whole p rest)
unfolding AfterHead PieceSays entry
from_whole order kind s zero len after h p rest k =
    let same = whole_same p None rest after k in
    subst (λ (q : Option Entry). OptionSays order kind s (whole q rest)) (sym same.0) (record { ignored = len; head = subst (λ (x : List ℕ). CodeLengthText order 0 len s x) (sym same.1) h })
from_whole order kind s (suc c) len after h p rest k =
    let pad : Padded k.0 after rest = subst (λ (x : List ℕ). Padded k.0 after x) (sym k.3.3) k.2.0 in
    let is : OptionText order kind (entry (suc c) k.3.0) s rest = record { v = k.0; after_head = after; head = head_with order (suc c) len k.0 s after h k.2.1; no_mark = λ z. omega (arith, z); padded = pad; value_is = k.3.1 } in
    subst (λ (q : Option Entry). OptionSays order kind s (whole q rest)) (sym k.3.2) is

from_fault : (order : Order) (kind : Kind) (s : List ℕ) (code len : ℕ) (after : List ℕ) → CodeLengthText order code len s after → (f : Fault) → AfterHead order kind code len after (faulty f) → OptionFault order kind s f
unfolding AfterHead PieceSays
from_fault order kind s zero len after h f k = absurd cc
from_fault order kind s (suc c) len after h f (inl t) = rw t.0 (cut (suc c) len after h (λ z. omega (arith, z)) t.1)
from_fault order kind s (suc c) len after h f (inr t) = wrong f (suc c) t.0 after t.1 (head_with order (suc c) len t.0 s after h t.2.1) (λ z. omega (arith, z)) t.2.0 t.3

no_lack_behind : (order : Order) (kind : Kind) (code len : ℕ) (after : List ℕ) (n : ℕ) → AfterHead order kind code len after (lacks n) → ⊥
unfolding AfterHead PieceSays
no_lack_behind order kind zero len after n k = absurd cc
no_lack_behind order kind (suc c) len after n (inl t) = t
no_lack_behind order kind (suc c) len after n (inr t) = t.3

option_from : (order : Order) (kind : Kind) (s : List ℕ) (w : Verdict (Option Entry)) → OptionThen order kind s w → OptionSays order kind s w
unfolding OptionThen
option_from order kind s (whole p rest) t = from_whole order kind s t.0.0 t.0.1.0 t.1 (head_from order t.0 s t.1 t.2) p rest t.3
option_from order kind s (lacks n) (inl t) = absurd t
option_from order kind s (lacks n) (inr t) = no_lack_behind order kind t.0.0 t.0.1.0 t.1 n t.3
option_from order kind s (faulty f) (inl t) = rw t.0 (short t.1)
option_from order kind s (faulty f) (inr t) = from_fault order kind s t.0.0 t.0.1.0 t.1 (head_from order t.0 s t.1 t.2) f t.3

pub option_one : (order : Order) (kind : Kind) (s : List ℕ) → ExactlyOne (OptionSays order kind s)
option_one order kind s = one_moved (OptionSays order kind s) (OptionThen order kind s) (option_to order kind s) (option_from order kind s) (option_then_one order kind s)

pub option_same : (order : Order) (kind : Kind) (s : List ℕ) (v w : Verdict (Option Entry)) → OptionSays order kind s v → OptionSays order kind s w → w ≡ v
option_same order kind s v w h k = (option_one order kind s).only w k ∙ sym ((option_one order kind s).only v h)

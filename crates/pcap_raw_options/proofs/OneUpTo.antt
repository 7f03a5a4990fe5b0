-- Any bytes have exactly one reading as options up to their first fault.
use Rattle.std.proofs.Common.{◌≡◌, ◌≢◌, ℕ, List, [], ◌∷◌, Option, Some, None, refl, sym, ap, ◌∙◌, inl, inr}
use Rattle.std.specs.Prelude.{◌⊎◌}
use Rattle.pcap_core.specs.Answer.{Order, Verdict, whole, lacks, faulty}
use Rattle.pcap_core.specs.Faults.{Fault, Invalid}
use Rattle.pcap_core.specs.Laws.{ExactlyOne}
use Rattle.pcap_core.specs.declared.rules.Rule.TheVariants.{OptionTooShort, OptionCut}
use Rattle.pcap_options.specs.Values.{Kind, Entry}
use Rattle.pcap_options.specs.Options.{OptionText, OptionFault, short, cut, wrong, OptionSays, Ending, IsOver, OptionList, ListFault}
use Rattle.pcap_core.proofs.Verdicts.{Stopped, IsMany, one_stopped, whole_no_fault}
use Rattle.pcap_core.proofs.Verdicts.{whole_same}
use Rattle.pcap_options.proofs.OneOption.{option_one, option_same}
use Rattle.pcap_options.proofs.OneList.{item_same, item_shorter, marks_same, mark_no_fault, mark_no_item, over_or_not, list_from_stop}
use Rattle.pcap_raw_options.specs.UpTo.{UpTo, StopsAt, ReadUpTo, no_kind}

abbrev Reading : Type 0
Reading = List Entry × Option Fault

Stop : Ending → Order → Kind → List Entry → List ℕ → Verdict Reading → Type 0
Stop ending order kind good s (whole x left) = (x.0 ≡ good) × StopsAt ending order kind good x.1 s left
Stop ending order kind good s (lacks n) = ⊥
Stop ending order kind good s (faulty f) = ⊥

flaw_same : (ending : Ending) (order : Order) (kind : Kind) (good : List Entry) (s : List ℕ) (f g : Option Fault) (a b : List ℕ) → StopsAt ending order kind good f s a → StopsAt ending order kind good g s b → (g ≡ f) × (b ≡ a)
flaw_same ending order kind good s None None a b x y = (refl, marks_same ending order kind good s a b x y)
flaw_same ending order kind good s None (Some g) a b x y = absurd (mark_no_fault ending order kind good s a g x y.0 y.1)
flaw_same ending order kind good s (Some f) None a b x y = absurd (mark_no_fault ending order kind good s b f y x.0 x.1)
flaw_same ending order kind good s (Some f) (Some g) a b x y =
    let both = option_same order kind s (faulty f) (faulty g) x.1 y.1 in
    let same : g ≡ f = cc in
    (ap Some same, y.2 ∙ sym x.2)

made : List Entry → Option Fault → List ℕ → Verdict Reading
made os f left = whole (os, f) left

pair_same : (x y : Reading) (a b : List ℕ) → x.0 ≡ y.0 → x.1 ≡ y.1 → a ≡ b → whole x a ≡ whole y b
unfolding made
pair_same x y a b e d c = let t : made x.0 x.1 a ≡ made y.0 y.1 b = rw (e, d, c) refl in t

stop_same : (ending : Ending) (order : Order) (kind : Kind) (good : List Entry) (s : List ℕ) (v w : Verdict Reading) → Stop ending order kind good s v → Stop ending order kind good s w → w ≡ v
unfolding Stop
stop_same ending order kind good s (whole x a) (whole y b) h k = let e = flaw_same ending order kind good s x.1 y.1 a b h.1 k.1 in pair_same y x b a (k.0 ∙ sym h.0) e.0 e.1
stop_same ending order kind good s (whole x a) (faulty g) h k = absurd k
stop_same ending order kind good s (whole x a) (lacks n) h k = absurd k
stop_same ending order kind good s (lacks n) w h k = absurd h
stop_same ending order kind good s (faulty f) w h k = absurd h

pub at_no_item : (ending : Ending) (order : Order) (kind : Kind) (good : List Entry) (s a : List ℕ) (f : Option Fault) (o : Entry) (b : List ℕ) → StopsAt ending order kind good f s a → OptionText order kind o s b → ⊥
at_no_item ending order kind good s a None o b x k = mark_no_item ending order kind good s a o b x k
at_no_item ending order kind good s a (Some f) o b x k = whole_no_fault (Some o) b f (option_same order kind s (faulty f) (whole (Some o) b) x.1 k)

stop_no_item : (ending : Ending) (order : Order) (kind : Kind) (good : List Entry) (s : List ℕ) (w : Verdict Reading) (o : Entry) (a : List ℕ) → Stop ending order kind good s w → OptionText order kind o s a → ⊥
unfolding Stop
stop_no_item ending order kind good s (whole x b) o a h k = at_no_item ending order kind good s b x.1 o a h.1 k
stop_no_item ending order kind good s (lacks n) o a h k = h
stop_no_item ending order kind good s (faulty f) o a h k = h

piece_stops : (ending : Ending) (order : Order) (kind : Kind) (good : List Entry) (s : List ℕ) → (IsOver ending good → s ≢ []) → (v : Verdict (Option Entry)) → OptionSays order kind s v → ((w : Verdict Reading) × Stop ending order kind good s w) ⊎ ((o : Entry) × (a : List ℕ) × OptionText order kind o s a)
unfolding Stop
piece_stops ending order kind good s on (whole None a) h = inl (whole (good, None) a, (refl, inl h))
piece_stops ending order kind good s on (whole (Some o) a) h = inr (o, a, h)
piece_stops ending order kind good s on (lacks n) h = absurd h
piece_stops ending order kind good s on (faulty f) h = inl (whole (good, Some f) s, (refl, (on, h, refl)))

stop_or_option : (ending : Ending) (order : Order) (kind : Kind) (good : List Entry) (s : List ℕ) → ((w : Verdict Reading) × Stop ending order kind good s w) ⊎ ((o : Entry) × (a : List ℕ) × OptionText order kind o s a)
unfolding Stop
stop_or_option ending order kind good [] =
    elim (over_or_not ending good) [
      | inl over ↦ inl (whole (good, None) [], (refl, inr (refl, over, refl)))
      | inr not ↦ piece_stops ending order kind good [] (λ over. absurd (not over)) (option_one order kind []).value (option_one order kind []).holds
    ]
stop_or_option ending order kind good (b ∷ s) = piece_stops ending order kind good (b ∷ s) (λ over z. cc) (option_one order kind (b ∷ s)).value (option_one order kind (b ∷ s)).holds

many : (ending : Ending) (order : Order) (kind : Kind) → IsMany (OptionText order kind) (Stop ending order kind)
many ending order kind = record { item_same = item_same order kind; item_shorter = item_shorter order kind; stop_same = stop_same ending order kind; stop_no_item = stop_no_item ending order kind; one_of_both = stop_or_option ending order kind }

make_up_to : List Entry → Option Fault → List ℕ → UpTo
make_up_to os f left = record { options = os; flaw = f; left = left }

abbrev as_verdict : UpTo → Verdict Reading
as_verdict x = whole (x.options, x.flaw) x.left

as_stopped : (ending : Ending) (order : Order) (kind : Kind) (s : List ℕ) (x : UpTo) → ReadUpTo ending order kind x s → Stopped (OptionText order kind) (Stop ending order kind) s (whole (x.options, x.flaw) x.left)
unfolding Stop
as_stopped ending order kind s x h = (x.options, h.stop, h.are_good, (refl, h.stops))

from_stopped : (ending : Ending) (order : Order) (kind : Kind) (s : List ℕ) (w : Verdict Reading) → Stopped (OptionText order kind) (Stop ending order kind) s w → (x : UpTo) × ReadUpTo ending order kind x s
unfolding Stop
from_stopped ending order kind s (whole y left) t =
    (record { options = t.0; flaw = y.1; left = left }, record { stop = t.1; are_good = t.2; stops = t.3.1 })
from_stopped ending order kind s (lacks n) t = absurd t.3
from_stopped ending order kind s (faulty f) t = absurd t.3

up_to_same : (x y : UpTo) → as_verdict x ≡ as_verdict y → x ≡ y
unfolding make_up_to
up_to_same x y e =
    let rx : Reading = (x.options, x.flaw) in
    let ry : Reading = (y.options, y.flaw) in
    let p = whole_same rx ry x.left y.left e in
    let a : x.options ≡ y.options = ap (λ (z : Reading). z.0) p.0 in
    let b : x.flaw ≡ y.flaw = ap (λ (z : Reading). z.1) p.0 in
    let t : make_up_to x.options x.flaw x.left ≡ make_up_to y.options y.flaw y.left = rw (a, b, p.1) refl in
    t

pub up_to_one : (ending : Ending) (order : Order) (kind : Kind) (s : List ℕ) → ExactlyOne (λ (x : UpTo). ReadUpTo ending order kind x s)
up_to_one ending order kind s =
    let one = one_stopped (OptionText order kind) (Stop ending order kind) (many ending order kind) s in
    let there = from_stopped ending order kind s one.value one.holds in
    record {
      value = there.0;
      holds = there.1;
      only = λ y h. up_to_same y there.0 (one.only (as_verdict y) (as_stopped ending order kind s y h) ∙ sym (one.only (as_verdict there.0) (as_stopped ending order kind s there.0 there.1)));
    }

pub whole_is : (ending : Ending) (order : Order) (kind : Kind) (s left : List ℕ) (options : List Entry) → ReadUpTo ending order kind (record { options = options; flaw = None; left = left }) s → OptionList ending order kind options s left
whole_is ending order kind s left options h = list_from_stop ending order kind options s h.stop left h.are_good h.stops

pub fault_is : (ending : Ending) (order : Order) (kind : Kind) (s left : List ℕ) (options : List Entry) (fault : Fault) → ReadUpTo ending order kind (record { options = options; flaw = Some fault; left = left }) s → ListFault ending order kind s fault
fault_is ending order kind s left options fault h = record { good = options; bad = h.stop; are_good = h.are_good; goes_on = h.stops.0; fault_is = h.stops.1 }

two_rules : (order : Order) (s : List ℕ) (fault : Fault) → OptionFault order no_kind s fault → (fault ≡ Invalid OptionTooShort) ⊎ (fault ≡ Invalid OptionCut)
two_rules order s fault (short a) = inl refl
two_rules order s fault (cut code len after head mark lack) = inr refl
two_rules order s fault (wrong f code v after rest head mark padded is) = absurd cc

pub raw_two_rules : (ending : Ending) (order : Order) (s : List ℕ) (fault : Fault) → ListFault ending order no_kind s fault → (fault ≡ Invalid OptionTooShort) ⊎ (fault ≡ Invalid OptionCut)
raw_two_rules ending order s fault h = two_rules order h.bad fault h.fault_is

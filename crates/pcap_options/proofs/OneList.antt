-- Any bytes have exactly one reading as a list of options, for each way in which a list may end.
use Rattle.std.proofs.Common.{◌≡◌, ◌≢◌, ◌+◌, ℕ, ◌<◌, List, [], ◌∷◌, length, Option, Some, None, refl, sym, ap, subst, ◌∙◌, arith, inl, inr}
use Rattle.std.specs.Prelude.{◌⊎◌}
use Rattle.pcap_core.specs.Answer.{Order, Verdict, whole, lacks, faulty}
use Rattle.pcap_core.specs.Faults.{Fault}
use Rattle.pcap_core.specs.Laws.{ExactlyOne}
use Rattle.pcap_core.proofs.Texts.{number_length}
use Rattle.pcap_core.specs.Padded.{Chain}
use Rattle.pcap_options.specs.Values.{Kind, Entry}
use Rattle.pcap_options.specs.Options.{CodeLengthText, OptionText, EndMark, OptionFault, OptionSays, Ending, wants_end, may_end_with_body, IsOver, OptionList, marked, with_body, ListSays}
use Rattle.pcap_core.proofs.Verdicts.{one_moved, Stopped, IsMany, one_stopped, whole_no_fault}
use Rattle.pcap_options.proofs.OneOption.{option_one, option_same}
use Rattle.pcap_options.proofs.OneVerdict.{IsDecided, same_said}
use Rattle.pcap_core.proofs.OnePadded.{padded_length}
use Rattle.pcap_core.proofs.Verdicts.{whole_same}

pub head_length : (order : Order) (code len : ℕ) (s rest : List ℕ) → CodeLengthText order code len s rest → length s ≡ 4 + length rest
head_length order code len s rest h = omega (arith, number_length order 2 code s h.after_code h.code_is, number_length order 2 len h.after_code rest h.length_is)

-- The list of these options ends here: at the end-of-options option, or where no byte is left and the list is over.
abbrev pub Ends : Ending → Order → List Entry → List ℕ → List ℕ → Type 0
Ends ending order good s rest = EndMark order s rest ⊎ ((s ≡ []) × IsOver ending good × (rest ≡ []))

-- A list of options stops at its end or at a fault.
ListStop : Ending → Order → Kind → List Entry → List ℕ → Verdict (List Entry) → Type 0
ListStop ending order kind good s (whole os rest) = (os ≡ good) × Ends ending order good s rest
ListStop ending order kind good s (lacks n) = ⊥
ListStop ending order kind good s (faulty f) = (IsOver ending good → s ≢ []) × OptionFault order kind s f

pub item_same : (order : Order) (kind : Kind) (o p : Entry) (s a b : List ℕ) → OptionText order kind o s a → OptionText order kind p s b → (o ≡ p) × (a ≡ b)
item_same order kind o p s a b h k =
    let same = whole_same (Some p) (Some o) b a (option_same order kind s (whole (Some o) a) (whole (Some p) b) h k) in
    let some = same.0 in
    (cc, sym same.1)

pub item_shorter : (order : Order) (kind : Kind) (o : Entry) (s a : List ℕ) → OptionText order kind o s a → length a < length s
item_shorter order kind o s a h = omega (arith, head_length order o.code (length h.v) s h.after_head h.head, padded_length h.v h.after_head a h.padded)

pub piece_some : (order : Order) (kind : Kind) (s a : List ℕ) (p : Option Entry) → OptionSays order kind s (whole p a) → s ≢ []
piece_some order kind s a None h z = omega (arith, head_length order 0 h.ignored s a h.head, ap length z)
piece_some order kind s a (Some o) h z = omega (arith, item_shorter order kind o s a h, ap length z)

pub marks_same : (ending : Ending) (order : Order) (kind : Kind) (good : List Entry) (s a b : List ℕ) → Ends ending order good s a → Ends ending order good s b → b ≡ a
marks_same ending order kind good s a b (inl x) (inl y) = (whole_same None None b a (option_same order kind s (whole None a) (whole None b) x y)).1
marks_same ending order kind good s a b (inl x) (inr y) = absurd (piece_some order kind s a None x y.0)
marks_same ending order kind good s a b (inr x) (inl y) = absurd (piece_some order kind s b None y x.0)
marks_same ending order kind good s a b (inr x) (inr y) = y.2 ∙ sym x.2

pub mark_no_fault : (ending : Ending) (order : Order) (kind : Kind) (good : List Entry) (s a : List ℕ) (f : Fault) → Ends ending order good s a → (IsOver ending good → s ≢ []) → OptionFault order kind s f → ⊥
mark_no_fault ending order kind good s a f (inl x) some fault = whole_no_fault None a f (option_same order kind s (faulty f) (whole None a) fault x)
mark_no_fault ending order kind good s a f (inr x) some fault = some x.1 x.0

stop_decided : (ending : Ending) (order : Order) (kind : Kind) (good : List Entry) (s : List ℕ) → IsDecided (ListStop ending order kind good s)
unfolding ListStop
stop_decided ending order kind good s = record {
  wholes = λ os ps a b h k. (k.0 ∙ sym h.0, marks_same ending order kind good s a b h.1 k.1);
  faults = λ f g h k. let both = option_same order kind s (faulty f) (faulty g) h.1 k.1 in cc;
  not_both = λ os a f h k. mark_no_fault ending order kind good s a f h.1 k.0 k.1;
  no_lack = λ n h. h;
}

pub mark_no_item : (ending : Ending) (order : Order) (kind : Kind) (good : List Entry) (s a : List ℕ) (o : Entry) (b : List ℕ) → Ends ending order good s a → OptionText order kind o s b → ⊥
mark_no_item ending order kind good s a o b (inl x) k = let same = whole_same (Some o) None b a (option_same order kind s (whole None a) (whole (Some o) b) x k) in let none = same.0 in absurd cc
mark_no_item ending order kind good s a o b (inr x) k = piece_some order kind s b (Some o) k x.0

stop_no_item : (ending : Ending) (order : Order) (kind : Kind) (good : List Entry) (s : List ℕ) (w : Verdict (List Entry)) (o : Entry) (a : List ℕ) → ListStop ending order kind good s w → OptionText order kind o s a → ⊥
unfolding ListStop
stop_no_item ending order kind good s (whole os b) o a h k = mark_no_item ending order kind good s b o a h.1 k
stop_no_item ending order kind good s (lacks n) o a h k = h
stop_no_item ending order kind good s (faulty f) o a h k = whole_no_fault (Some o) a f (option_same order kind s (faulty f) (whole (Some o) a) h.1 k)

pub over_or_not : (ending : Ending) (good : List Entry) → IsOver ending good ⊎ (IsOver ending good → ⊥)
over_or_not wants_end [] = inl refl
over_or_not wants_end (o ∷ os) = inr (λ e. absurd cc)
over_or_not may_end_with_body good = inl tt

-- One more option or a stop, where the list isn't over.
piece_stops : (ending : Ending) (order : Order) (kind : Kind) (good : List Entry) (s : List ℕ) → (IsOver ending good → s ≢ []) → (v : Verdict (Option Entry)) → OptionSays order kind s v → ((w : Verdict (List Entry)) × ListStop ending order kind good s w) ⊎ ((o : Entry) × (a : List ℕ) × OptionText order kind o s a)
unfolding ListStop
piece_stops ending order kind good s on (whole None a) h = inl (whole good a, (refl, inl h))
piece_stops ending order kind good s on (whole (Some o) a) h = inr (o, a, h)
piece_stops ending order kind good s on (lacks n) h = absurd h
piece_stops ending order kind good s on (faulty f) h = inl (faulty f, (on, h))

stop_or_option : (ending : Ending) (order : Order) (kind : Kind) (good : List Entry) (s : List ℕ) → ((w : Verdict (List Entry)) × ListStop ending order kind good s w) ⊎ ((o : Entry) × (a : List ℕ) × OptionText order kind o s a)
unfolding ListStop
stop_or_option ending order kind good [] =
    elim (over_or_not ending good) [
      | inl over ↦ inl (whole good [], (refl, inr (refl, over, refl)))
      | inr not ↦ piece_stops ending order kind good [] (λ over. absurd (not over)) (option_one order kind []).value (option_one order kind []).holds
    ]
stop_or_option ending order kind good (b ∷ s) = piece_stops ending order kind good (b ∷ s) (λ over z. cc) (option_one order kind (b ∷ s)).value (option_one order kind (b ∷ s)).holds

list_many : (ending : Ending) (order : Order) (kind : Kind) → IsMany (OptionText order kind) (ListStop ending order kind)
list_many ending order kind = record { item_same = item_same order kind; item_shorter = item_shorter order kind; stop_same = λ good s v w h k. same_said (stop_decided ending order kind good s) v w h k; stop_no_item = stop_no_item ending order kind; one_of_both = stop_or_option ending order kind }

list_to : (ending : Ending) (order : Order) (kind : Kind) (s : List ℕ) (w : Verdict (List Entry)) → ListSays ending order kind s w → Stopped (OptionText order kind) (ListStop ending order kind) s w
unfolding ListStop
list_to ending order kind s (whole os rest) (marked end are is) = (os, end, are, (refl, inl is))
list_to ending order kind s (whole os rest) (with_body are over none) = (os, [], are, (refl, inr (refl, over, none)))
list_to ending order kind s (lacks n) h = absurd h
list_to ending order kind s (faulty f) h = (h.good, h.bad, h.are_good, (h.goes_on, h.fault_is))

pub list_from_stop : (ending : Ending) (order : Order) (kind : Kind) (good : List Entry) (s bad rest : List ℕ) → Chain (OptionText order kind) good s bad → Ends ending order good bad rest → OptionList ending order kind good s rest
list_from_stop ending order kind good s bad rest are (inl x) = marked bad are x
list_from_stop ending order kind good s bad rest are (inr x) = with_body (subst (λ (t : List ℕ). Chain (OptionText order kind) good s t) x.0 are) x.1 x.2

list_from : (ending : Ending) (order : Order) (kind : Kind) (s : List ℕ) (w : Verdict (List Entry)) → Stopped (OptionText order kind) (ListStop ending order kind) s w → ListSays ending order kind s w
unfolding ListStop
list_from ending order kind s (whole os rest) t = subst (λ (x : List Entry). OptionList ending order kind x s rest) (sym t.3.0) (list_from_stop ending order kind t.0 s t.1 rest t.2 t.3.1)
list_from ending order kind s (lacks n) t = t.3
list_from ending order kind s (faulty f) t = record { good = t.0; bad = t.1; are_good = t.2; goes_on = t.3.0; fault_is = t.3.1 }

pub list_one : (ending : Ending) (order : Order) (kind : Kind) (s : List ℕ) → ExactlyOne (ListSays ending order kind s)
list_one ending order kind s =
    one_moved (ListSays ending order kind s) (Stopped (OptionText order kind) (ListStop ending order kind) s) (list_to ending order kind s) (list_from ending order kind s) (one_stopped (OptionText order kind) (ListStop ending order kind) (list_many ending order kind) s)

-- A list under `wants_end` is the same list under `may_end_with_body`.
pub list_kept : (order : Order) (kind : Kind) (options : List Entry) (s rest : List ℕ) → OptionList wants_end order kind options s rest → OptionList may_end_with_body order kind options s rest
list_kept order kind options s rest (marked end are is) = marked end are is
list_kept order kind options s rest (with_body are over none) = with_body are tt none

pub no_others : (order : Order) (kind : Kind) (options others : List Entry) (s rest more : List ℕ) → OptionList wants_end order kind options s rest → OptionList may_end_with_body order kind others s more → (others ≡ options) × (more ≡ rest)
no_others order kind options others s rest more old new =
    let one = list_one may_end_with_body order kind s in
    whole_same others options more rest (one.only (whole others more) new ∙ sym (one.only (whole options rest) (list_kept order kind options s rest old)))

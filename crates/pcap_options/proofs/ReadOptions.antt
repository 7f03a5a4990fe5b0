-- Lemmas for the calls that read options.
use Rattle.std.proofs.Common.{◌≡◌, ◌≢◌, Err, true, false, subst, ℕ, List, [], ◌∷◌, length, sym}
use Rattle.std.specs.Prelude.{◌==◌}
use Rattle.std.proofs.lemmas.List.{nil_from_length}
use Rattle.std.proofs.lemmas.Bool.{eqb-true}
use Rattle.pcap_core.specs.Answer.{Order, Number}
use Rattle.pcap_core.specs.Faults.{Fault}
use Rattle.pcap_core.specs.Padded.{Padded, Chain}
use Rattle.pcap_options.specs.Values.{Kind, Entry, shape_at, value_of}
use Rattle.pcap_options.specs.Options.{CodeLengthText, OptionText, OptionFault, wrong, Ending, may_end_with_body, OptionList, with_body, ListFault}

pub head_is : {order : Order} {code len : ℕ} {s after rest : List ℕ} → Number order 2 code s after → Number order 2 len after rest → CodeLengthText order code len s rest
head_is a b = record { after_code = _; code_is = a; length_is = b }

-- The length before a value can be stated as the length of the value.
pub head_with : (order : Order) (code len : ℕ) (v s rest : List ℕ) → CodeLengthText order code len s rest → length v ≡ len → CodeLengthText order code (length v) s rest
head_with order code len v s rest h is = subst (λ (k : ℕ). CodeLengthText order code k s rest) (sym is) h

pub option_wrong : (order : Order) (kind : Kind) (code len : ℕ) (v s after rest : List ℕ) → CodeLengthText order code len s after → length v ≡ len → code ≢ 0 → Padded v after rest
    → (f : Fault) → value_of order (shape_at kind code) v ≡ Err f → OptionFault order kind s f
option_wrong order kind code len v s after rest h is ne p f value = wrong f code v after rest (head_with order code len v s after h is) ne p value

pub not_empty : (s : List ℕ) → false ≡ (length s == 0) → s ≢ []
not_empty [] h e = absurd cc
not_empty (x ∷ s) h e = cc

pub is_empty : (s : List ℕ) → true ≡ (length s == 0) → s ≡ []
is_empty s h = nil_from_length s (eqb-true _ _ (sym h))

pub list_fails : (ending : Ending) (order : Order) (kind : Kind) (good : List Entry) (s bad : List ℕ) → Chain (OptionText order kind) good s bad → bad ≢ [] → (f : Fault) → OptionFault order kind bad f → ListFault ending order kind s f
list_fails ending order kind good s bad are some f fault = record { good = good; bad = bad; are_good = are; goes_on = λ over. some; fault_is = fault }

pub list_ends : (order : Order) (kind : Kind) (options : List Entry) (s rest : List ℕ) → Chain (OptionText order kind) options s rest → rest ≡ [] → OptionList may_end_with_body order kind options s rest
list_ends order kind options s rest are none = with_body (subst (λ (x : List ℕ). Chain (OptionText order kind) options s x) none are) tt none

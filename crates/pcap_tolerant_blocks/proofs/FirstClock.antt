-- The clock of an interface, from its options one after another.
use Rattle.std.proofs.Common.{◌≡◌, ℕ, List, [], ◌∷◌, ◌++◌, Option, Some, None, refl, sym, ap, subst, ◌∙◌}
use Rattle.std.specs.Prelude.{slice_get}
use Rattle.std.specs.List.{filter_map, cons_option}
use Rattle.std.specs.Option.{option_or}
use Rattle.std.proofs.lemmas.List.Elements.{filter_map-append}
use Rattle.pcap_core.specs.Answer.{Order, Verdict, whole}
use Rattle.pcap_options.specs.Values.{Entry, Value, Kind}
use Rattle.pcap_options.specs.Held.{first_under, number_in, under}
use Rattle.pcap_options.specs.InterfaceOption.{interface_description}
use Rattle.pcap_blocks.specs.InterfaceDescription.{Interface}
use Rattle.pcap_tolerant_blocks.specs.declared.outline.ClockOptions.{ClockOptions}
use Rattle.pcap_tolerant_blocks.specs.declared.outline.InterfaceOutline.{InterfaceOutline}
use Rattle.pcap_tolerant_blocks.specs.Flaws.{Said, Flawed}
use Rattle.pcap_tolerant_blocks.specs.InterfaceAsIs.{WithHead, InterfaceText}
use Rattle.pcap_tolerant_blocks.specs.OptionsAsIs.{OptionsAsIs}
use Rattle.pcap_tolerant_blocks.specs.Outline.{IsClockIn, IsOutlineOf, Outlines}
use Rattle.pcap_tolerant_blocks.proofs.Lists.{ReadSoFar}
use Rattle.pcap_tolerant_blocks.proofs.NextFlaw.{options_same}
use Rattle.pcap_tolerant_blocks.proofs.OneAsIs.{interface_one}

got_first : {X : Type 0} (xs : List X) (o : Option X) → slice_get (xs ++ cons_option o []) 0 ≡ option_or (slice_get xs 0) o
got_first [] None = refl
got_first [] (Some x) = refl
got_first (first ∷ xs) o = refl

-- With one more option, the first value under a code is the one so far, or else that of the option.
pub first_more : {X : Type 0} (code : ℕ) (such : Value → Option X) (options : List Entry) (option : Entry) → first_under code such (options ++ option ∷ []) ≡ option_or (first_under code such options) (under code such option)
first_more code such options option =
    let h = under code such in
    ap (λ l. slice_get l 0) (filter_map-append h options (option ∷ [])) ∙ got_first (filter_map h options) (h option)

-- The options of a clock with those of one more option.
pub clock_more : (options : List Entry) (option : Entry) (clock next : ClockOptions) → IsClockIn options clock → next.resolution ≡ option_or clock.resolution (under 9 number_in option) → next.offset ≡ option_or clock.offset (under 14 number_in option)
    → IsClockIn (options ++ option ∷ []) next
clock_more options option clock next is resolution offset = record {
  resolution = resolution ∙ ap (λ (o : Option ℕ). option_or o (under 9 number_in option)) is.resolution ∙ sym (first_more 9 number_in options option);
  offset = offset ∙ ap (λ (o : Option ℕ). option_or o (under 14 number_in option)) is.offset ∙ sym (first_more 14 number_in options option);
}

-- No option was read yet.
pub none_read : (order : Order) (kind : Kind) (s : List ℕ) → ReadSoFar order kind [] [] s s
none_read order kind s = record { each = []; are = refl; options_are = refl; flaws_are = refl }

-- All options were read.
pub clock_of_all : (order : Order) (options : List Entry) (flaws : List Said) (s rest : List ℕ) (clock : ClockOptions) → OptionsAsIs order interface_description options flaws s rest → IsClockIn options clock
    → (all : List Entry) (others : List Said) (left : List ℕ) → OptionsAsIs order interface_description all others s left → IsClockIn all clock
clock_of_all order options flaws s rest clock read is all others left are =
    subst (λ (l : List Entry). IsClockIn l clock) (options_same order interface_description options all flaws others s rest left read are) is

interface_in : Verdict (Flawed (Option Interface)) → Option Interface
interface_in (whole x rest) = x.value
interface_in _ = None

-- The interface that was read is the only one.
pub outline_of_one : (order : Order) (s : List ℕ) (made : Interface) (flaws : List Said) (rest : List ℕ) (outline : InterfaceOutline) → WithHead order made flaws s rest → Outlines made outline
    → (interface : Option Interface) (others : List Said) (left : List ℕ) → InterfaceText order interface others s left → IsOutlineOf interface (Some outline)
unfolding interface_in
outline_of_one order s made flaws rest outline read is interface others left text =
    let one = interface_one order s in
    let both : whole (record { value = interface; flaws = others }) left ≡ whole (record { value = Some made; flaws = flaws }) rest = one.only (whole (record { value = interface; flaws = others }) left) text ∙ sym (one.only (whole (record { value = Some made; flaws = flaws }) rest) read) in
    let same : interface ≡ Some made = ap interface_in both in
    subst (λ (i : Option Interface). IsOutlineOf i (Some outline)) (sym same) is

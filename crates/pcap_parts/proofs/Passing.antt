-- Proofs about items that are skipped one by one.
use Rattle.std.proofs.Common.{◌≡◌, ◌<◌, ◌≤◌, ◌+◌, ◌-◌, ℕ, List, [], ◌∷◌, ◌++◌, length, refl, sym, ap, subst, ◌∙◌, arith, length-append, inl, inr}
use Rattle.std.proofs.lemmas.List.{nil_from_length}
use Rattle.std.specs.Prelude.{Option, Some, None, Result, Ok, Err, ◌⊎◌}
use Rattle.std.specs.declared.alloc.AllocError.{AllocError}
use Rattle.pcap_core.specs.declared.errors.PcapError.{PcapError}
use Rattle.pcap_items.specs.declared.rest.Rest.{Rest}
use Rattle.pcap_core.specs.declared.errors.PcapError.TheVariants as errors
use Rattle.pcap_items.specs.declared.rest.Rest.TheVariants.{Needs, Refused}
use Rattle.pcap_core.specs.Answer.{whole, lacks, faulty, Refuses}
use Rattle.pcap_core.specs.Errors.{IsMemory}
use Rattle.pcap_items.specs.Format.{Format, Texts, state_after, IsLawful}
use Rattle.pcap_items.specs.Run.{IsRest, rest_or_memory_of}
use Rattle.pcap_items.proofs.Formats.{state_push, texts_push, shorter}
use Rattle.pcap_parts.specs.Parts.{EndsPassing, LastIsNeeded, PassesTo, StopsPassing}

module _ {S V : Type 0} (f : Format S V) where
  -- Passing: items were skipped, and they lead to the state `reached`.
  pub record Passing (q reached : S) (s rest : List ℕ) (at_least n : ℕ) : Type 0 where
    pub taken : List V
    pub leads : state_after f q taken ≡ reached
    pub count : length taken ≡ n
    pub texts : Texts f q taken s rest
    pub few : n + length rest ≤ length s
    pub needed : LastIsNeeded f q taken s rest at_least

module _ {S V : Type 0} (f : Format S V) (laws : IsLawful f) (q : S) (s : List ℕ) (at_least : ℕ) where
  pub passing_none : Passing f q q s s at_least 0
  passing_none = record { taken = []; leads = refl; count = refl; texts = refl; few = omega arith; needed = inl refl }

  pub passing_more : (p next : S) (v : V) (mid rest : List ℕ) (n : ℕ) → Passing f q p s mid at_least n → f.says p mid (whole v rest) → f.goes p v ≡ next
      → length s - at_least < length mid → Passing f q next s rest at_least (n + 1)
  passing_more p next v mid rest n so_far text goes less =
      let taken = so_far.taken in
      let here : f.says (state_after f q taken) mid (whole v rest) = subst (λ (z : S). f.says z mid (whole v rest)) (sym so_far.leads) text in
      record {
        taken = taken ++ v ∷ [];
        leads = state_push f q taken v ∙ ap (λ (z : S). f.goes z v) so_far.leads ∙ goes;
        count = length-append taken (v ∷ []) ∙ omega (arith, so_far.count);
        texts = texts_push f q taken v s mid rest so_far.texts here;
        few = omega (arith, so_far.few, shorter f laws p v mid rest text);
        needed = inr (taken, v, mid, refl, so_far.texts, here, omega (arith, less));
      }

  pub passing_stops : (p : S) (rest : List ℕ) (n : ℕ) (said : Option Rest) → Passing f q p s rest at_least n → StopsPassing f p s rest at_least said → PassesTo f q p s rest at_least n said
  passing_stops p rest n said so_far stops = record {
    passes = record {
      items = so_far.taken;
      count = so_far.count;
      texts = so_far.texts;
      needed = so_far.needed;
      stops = subst (λ (z : S). StopsPassing f z s rest at_least said) (sym so_far.leads) stops;
    };
    leads = so_far.leads;
  }

  -- A rest is reported if fewer bytes than wanted are skipped.
  pub passing_rest : (p : S) (rest : List ℕ) (n : ℕ) (said : Rest) → Passing f q p s rest at_least n → length s - at_least < length rest → IsRest (f.says p) rest said
      → PassesTo f q p s rest at_least n (Some said)
  passing_rest p rest n said so_far less is = passing_stops p rest n (Some said) so_far (omega (arith, less), is)

  ends_stops : (p : S) (rest : List ℕ) (said : Option Rest) → length rest ≤ length s - at_least → EndsPassing (length s) at_least said → StopsPassing f p s rest at_least said
  ends_stops p rest None enough ends = omega (arith, enough, ends)
  ends_stops p rest (Some said) enough ends = (omega (arith, ends.0), subst (λ (r : Rest). IsRest (f.says p) rest r) (sym ends.1) (nil_from_length rest (omega (arith, enough, ends.0))))

  -- Enough bytes are skipped, or all bytes are.
  pub passing_ends : (p : S) (rest : List ℕ) (n : ℕ) (said : Option Rest) → Passing f q p s rest at_least n → length rest ≤ length s - at_least → EndsPassing (length s) at_least said
      → PassesTo f q p s rest at_least n said
  passing_ends p rest n said so_far enough ends = passing_stops p rest n said so_far (ends_stops p rest said enough ends)

abbrev Told : Type 0
Told = Result Rest AllocError

abbrev told : Rest → Told
told r = Ok r

abbrev not_told : AllocError → Told
not_told x = Err x

ok_same : (a b : Rest) → told a ≡ told b → a ≡ b
ok_same a b e = cc

no_ok : (x : AllocError) (a : Rest) → not_told x ≡ told a → ⊥
no_ok x a e = absurd cc

module _ {S V : Type 0} (f : Format S V) (q : S) (left : List ℕ) (Grows : Type 0) where
  -- An error other than out of memory describes the rest.
  pub rest_is : (e : PcapError) (said : Rest) → 0 < length left → Refuses Grows (λ n. f.says q left (lacks n)) (λ fault. f.says q left (faulty fault)) e → rest_or_memory_of e ≡ Ok said
      → IsRest (f.says q) left said
  rest_is (errors.IncompleteBuffer n) said some refuses e = subst (λ (r : Rest). IsRest (f.says q) left r) (ok_same (Needs n) said e) (refuses, some)
  rest_is (errors.OutOfMemory x) said some refuses e = absurd (no_ok x said e)
  rest_is error said some refuses e = subst (λ (r : Rest). IsRest (f.says q) left r) (ok_same (Refused error) said e) refuses

-- If a rest is reported, memory did not run out.
pub but_for_memory : (P : Type 0) (e : PcapError) (said : Rest) → IsMemory e ⊎ P → rest_or_memory_of e ≡ Ok said → P
but_for_memory P e said (inr p) is = p
but_for_memory P (errors.OutOfMemory x) said (inl m) is = absurd (no_ok x said is)
but_for_memory P _ said (inl m) is = absurd m

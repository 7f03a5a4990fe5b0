-- Proofs about the next cut of any format and any request for parts.
use Rattle.std.proofs.Common.{◌≡◌, ◌<◌, ◌≤◌, ◌+◌, ◌-◌, ℕ, List, [], ◌∷◌, ◌++◌, length, refl, arith}
use Rattle.std.proofs.lemmas.Option.{same_Some}
use Rattle.std.specs.Prelude.{Option, None, Some}
use Rattle.pcap_items.specs.declared.rest.Rest.{Rest}
use Rattle.pcap_items.specs.Format.{Format, Texts, state_after, IsLawful}
use Rattle.pcap_parts.specs.declared.cut.Cut.{Cut}
use Rattle.pcap_parts.specs.declared.parting.Parting.{Parting}
use Rattle.pcap_parts.specs.declared.parting.Parting.TheVariants.{Equal, AtLeast}
use Rattle.pcap_parts.specs.Partings.{AreAskedFor, AsksSome, WantsNext}
use Rattle.pcap_parts.specs.Parts.{AreSteps, Bound, NoneFollows, Passes}
use Rattle.pcap_parts.proofs.Cutting.{Cutting, bound_next, cutting_more, cutting_none}
use Rattle.pcap_parts.proofs.Fair.{FairSoFar, all_passed, fair_at_last, fair_enough, fair_more, fair_none, none_further, passed_first}
use Rattle.pcap_parts.proofs.Stepping.{StandsBefore, step_ends, step_push}

module _ {S V : Type 0} (f : Format S V) (q : S) (s : List ℕ) (total : ℕ) where
  -- MadeSoFar: the requested property of the cuts so far, with the bytes behind the last cut.
  abbrev pub MadeSoFar : Parting → List ℕ → List Cut → Type 0
  MadeSoFar (Equal parts) left cuts = FairSoFar f q s total (total - length s) parts (length s - length left) cuts
  MadeSoFar (AtLeast n) left cuts = AreSteps f q s total n (StandsBefore f q s total n left) cuts

  pub record PartedSoFar (how : Parting) (left : List ℕ) (before : ℕ) (cuts : List Cut) : Type 0 where
    pub cutting : Cutting f q s (total - length s) total left before cuts
    pub made : MadeSoFar how left cuts
    pub few : before + length left ≤ length s

  -- IsWantedBehind: the next cut is wanted this many bytes behind the last cut.
  abbrev pub IsWantedBehind : Parting → List ℕ → Option ℕ → Type 0
  IsWantedBehind how left wanted = WantsNext how (length s - length left) (length s) wanted

module _ {S V : Type 0} (f : Format S V) (laws : IsLawful f) (q : S) (s : List ℕ) (total : ℕ) (fits : length s ≤ total) where
  made_first : (how : Parting) (first : Cut) → first.offset ≡ total - length s → Bound f q s total first → MadeSoFar f q s total how s (first ∷ [])
  made_first (Equal parts) first place b = fair_none f laws q s total (total - length s) parts first b place (omega (arith, b.place, place, fits)) (length s - length s) (omega arith)
  made_first (AtLeast n) first place b = omega (arith, place, fits)

  pub parted_begin : (how : Parting) → AsksSome how → (first : Cut) → first.offset ≡ total - length s → first.before ≡ 0 → PartedSoFar f q s total how s 0 (first ∷ [])
  parted_begin how some first place none =
      let cutting = cutting_none f q s total first fits place none in
      record { cutting = cutting; made = made_first how first place cutting.cuts_are.bounds.0; few = omega arith }

  wants_some : (how : Parting) → AsksSome how → (left : List ℕ) (n : ℕ) → IsWantedBehind f q s total how left (Some n) → 0 < n
  wants_some (Equal parts) some left n wanted = wanted.4
  wants_some (AtLeast least) some left n wanted = omega (arith, same_Some n least wanted, some)

  made_more : (how : Parting) → AsksSome how → (us : List V) (left after : List ℕ) (n count : ℕ) (cuts : List Cut) (x : Cut) → MadeSoFar f q s total how left cuts → Texts f q us s left
      → IsWantedBehind f q s total how left (Some n) → Passes f (state_after f q us) left after n count None → 0 < length after → length left ≤ length s → (b : Bound f q s total x) → length b.rest ≡ length after
      → MadeSoFar f q s total how after (cuts ++ x ∷ [])
  made_more (Equal parts) some us left after n count cuts x made texts wanted p bytes within b same =
      fair_more f laws q s total (total - length s) parts us left after n count wanted.0 cuts x made texts p wanted.1 wanted.2 wanted.3 wanted.4 (omega (arith, fits)) bytes within b same
  made_more (AtLeast least) some us left after n count cuts x made texts wanted p bytes within b same =
      let is = same_Some n least wanted in
      step_push f q s total least (StandsBefore f q s total least left) (StandsBefore f q s total least after) cuts x made
      (λ c stands. (passed_first f laws q s total us left after n count (c.offset + least) x texts p (omega (arith, is, some)) (omega (arith, is, stands)) b same, omega (arith, b.place, same, bytes)))
      (omega (arith, b.place, same))

  pub parted_more : (how : Parting) → AsksSome how → (left after : List ℕ) (before n count : ℕ) (cuts : List Cut) (x : Cut) (so_far : PartedSoFar f q s total how left before cuts)
      → IsWantedBehind f q s total how left (Some n) → Passes f (state_after f q so_far.cutting.items) left after n count None → 0 < length after → count + length after ≤ length left
      → x.offset ≡ total - length after → x.before ≡ before + count → PartedSoFar f q s total how after (before + count) (cuts ++ x ∷ [])
  parted_more how some left after before n count cuts x so_far wanted p bytes few at counts =
      let items = so_far.cutting.items in
      let texts = so_far.cutting.texts in
      let within : length left ≤ length s = omega (arith, so_far.few) in
      let b = bound_next f q s total items left after before n count x texts so_far.cutting.count p (omega (arith, p.stops, so_far.few, fits, at)) counts in
      record {
        cutting = cutting_more f q s total (total - length s) left after before n count cuts x so_far.cutting p (wants_some how some left n wanted) fits within at counts;
        made = made_more how some items left after n count cuts x so_far.made texts wanted p bytes within b.0 b.1;
        few = omega (arith, so_far.few, few);
      }

  -- The cuts are the requested ones if no boundary with bytes behind it is as far as wanted.
  parted_last : (how : Parting) (left : List ℕ) (before n : ℕ) (cuts : List Cut) → PartedSoFar f q s total how left before cuts → IsWantedBehind f q s total how left (Some n)
      → ((cut : Cut) (y : Bound f q s total cut) → length y.rest + n ≤ length left → cut.offset < total → ⊥) → AreAskedFor f q s total how cuts
  parted_last (Equal parts) left before n cuts so_far wanted none =
      fair_at_last f laws q s total (total - length s) parts left n wanted.0 cuts so_far.made wanted.2 wanted.3 (omega (arith, fits)) (omega (arith, so_far.few)) none
  parted_last (AtLeast least) left before n cuts so_far wanted none =
      step_ends f q s total least (StandsBefore f q s total least left) (NoneFollows f q s total least) cuts so_far.made
      (λ c stands other y there less. none other y (omega (arith, stands, there, y.place, same_Some n least wanted)) less)

  -- The cuts are the requested ones if the items end before the wanted place.
  pub parted_end : (how : Parting) → AsksSome how → (left after : List ℕ) (before n count : ℕ) (cuts : List Cut) (said : Rest) (so_far : PartedSoFar f q s total how left before cuts)
      → IsWantedBehind f q s total how left (Some n) → Passes f (state_after f q so_far.cutting.items) left after n count (Some said) → AreAskedFor f q s total how cuts
  parted_end how some left after before n count cuts said so_far wanted p =
      parted_last how left before n cuts so_far wanted (λ cut y there less. none_further f laws q s total so_far.cutting.items left after n count said so_far.cutting.texts p cut y there)

  -- The cuts are the requested ones if no bytes follow what is skipped.
  pub parted_end_with_bytes : (how : Parting) → AsksSome how → (left after : List ℕ) (before n count : ℕ) (cuts : List Cut) (so_far : PartedSoFar f q s total how left before cuts)
      → IsWantedBehind f q s total how left (Some n) → Passes f (state_after f q so_far.cutting.items) left after n count None → length after ≡ 0 → AreAskedFor f q s total how cuts
  parted_end_with_bytes how some left after before n count cuts so_far wanted p empty =
      parted_last how left before n cuts so_far wanted (all_passed f laws q s total so_far.cutting.items left after n count so_far.cutting.texts p (wants_some how some left n wanted) empty)

  -- The cuts are the requested ones if the items end before the wanted place or no bytes follow.
  pub parted_stops : (how : Parting) → AsksSome how → (left after : List ℕ) (before n count : ℕ) (cuts : List Cut) (said : Option Rest) (so_far : PartedSoFar f q s total how left before cuts)
      → IsWantedBehind f q s total how left (Some n) → Passes f (state_after f q so_far.cutting.items) left after n count said → (said ≡ None → length after ≡ 0) → AreAskedFor f q s total how cuts
  parted_stops how some left after before n count cuts (Some said) so_far wanted p empty = parted_end how some left after before n count cuts said so_far wanted p
  parted_stops how some left after before n count cuts None so_far wanted p empty = parted_end_with_bytes how some left after before n count cuts so_far wanted p (empty refl)

  -- The cuts are the requested ones if no further cut is wanted.
  pub parted_enough : (how : Parting) (left : List ℕ) (before : ℕ) (cuts : List Cut) → PartedSoFar f q s total how left before cuts → IsWantedBehind f q s total how left None → AreAskedFor f q s total how cuts
  parted_enough (Equal parts) left before cuts so_far ended = fair_enough f laws q s total (total - length s) parts (length s - length left) cuts so_far.made ended
  parted_enough (AtLeast n) left before cuts so_far ended = absurd cc

-- Lemmas on a run over items, one item after another.
use Rattle.std.proofs.Common.{◌≡◌, ◌<◌, ◌≤◌, ◌+◌, ◌^◌, ℕ, List, [], ◌∷◌, ◌++◌, length, Bool, false, Option, Some, refl, sym, ap, ◌∙◌, subst, arith, length-append}
use Rattle.std.specs.Prelude.{sum_by}
use Rattle.std.proofs.KnownBytes.{Consumes-nil, Consumes-trans}
use Rattle.pcap_core.specs.declared.errors.PcapError.{PcapError}
use Rattle.pcap_core.specs.Errors.{IsMemory}
use Rattle.pcap_items.specs.Format.{Format, IsLawful}
use Rattle.pcap_items.specs.Reading.{Takes, TakesAsked, no_memory}
use Rattle.pcap_items.specs.Takes.{Stops}
use Rattle.pcap_items.proofs.Asked.{asked_text}
use Rattle.std.proofs.lemmas.List.Sums.{sum_by-cons}
use Rattle.pcap_items.proofs.Formats.{state_push, texts_more, texts_push}
use Rattle.pcapfile_run.specs.Passing.{counted}
use Rattle.pcapfile_run.proofs.Passing.{counted_more}
use Rattle.pcapfile_info.specs.declared.progress.Progress.{Progress}
use Rattle.pcapfile_info.specs.declared.seen.Sight.{Sight}
use Rattle.pcapfile_info.specs.declared.totals.Totals.{Totals}
use Rattle.pcapfile_info.specs.Telling.{AddsItem, AddsNothing, AreSights, SameCounts, Telling, TellsItems}
use Rattle.pcapfile_info.specs.Totals.{TotalsAre, interfaces_in}

-- One more sight belongs to one more item.
pub sights_push : {V : Type 0} (IsSight : ℕ → V → Sight → Type 0) (n : ℕ) (vs : List V) (sights : List Sight) (v : V) (sight : Sight) → AreSights IsSight n vs sights
    → IsSight (n + sum_by interfaces_in sights) v sight → AreSights IsSight n (vs ++ v ∷ []) (sights ++ sight ∷ [])
sights_push IsSight n [] [] v sight are is = (subst (λ (m : ℕ). IsSight m v sight) (omega arith) is, tt)
sights_push IsSight n [] (seen ∷ sights) v sight are is = absurd are
sights_push IsSight n (w ∷ vs) [] v sight are is = absurd are
sights_push IsSight n (w ∷ vs) (seen ∷ sights) v sight (first, are) is =
    let behind : n + sum_by interfaces_in (seen ∷ sights) ≡ n + interfaces_in seen + sum_by interfaces_in sights = omega (arith, sum_by-cons interfaces_in seen sights) in
    (first, sights_push IsSight (n + interfaces_in seen) vs sights v sight are (subst (λ (m : ℕ). IsSight m v sight) behind is))

-- If the counts are unchanged, nothing is added.
pub nothing_same : (old new : Progress) → SameCounts old new → AddsNothing old new
nothing_same old new same = (same.0, same.1, λ first sights before. subst (λ (t : Totals). TotalsAre first sights t) (sym same.2) before)

-- If the counts are unchanged and then nothing is added, nothing is added in all.
pub nothing_behind : (old mid new : Progress) → SameCounts old mid → AddsNothing mid new → AddsNothing old new
nothing_behind old mid new same adds = (adds.0 ∙ same.0, adds.1 ∙ same.1, λ first sights before. adds.2 first sights (subst (λ (t : Totals). TotalsAre first sights t) (sym same.2) before))

pub item_behind : (sight : Sight) (k : ℕ) (old mid new : Progress) → SameCounts old mid → AddsItem sight k mid new → AddsItem sight k old new
item_behind sight k old mid new same adds = (
  adds.0 ∙ ap (λ (n : ℕ). n + 1) same.0,
  adds.1 ∙ ap (λ (n : ℕ). counted (n + k)) same.1,
  λ first sights before. adds.2 first sights (subst (λ (t : Totals). TotalsAre first sights t) (sym same.2) before),
)

module _ {S V : Type 0} (f : Format S V) (q : S) (IsSight : ℕ → V → Sight → Type 0) (first : ℕ) (Kept : S → List V → List Sight → Progress → Type 0) where
  -- A run has taken nothing yet.
  abbrev pub telling_none : (before : Option (List ℕ)) (old : Progress) → old.bytes < 2 ^ 64 → Kept q [] [] old → Telling f q IsSight first Kept q before before old old 0
  telling_none before old room nothing = record {
    items = [];
    count = refl;
    leads = refl;
    took = record { bytes = []; texts = refl; took = Consumes-nil before };
    number = omega arith;
    bytes = omega (arith, room);
    sights = [];
    are_sights = tt;
    kept = nothing;
  }

  -- A run takes one more item of this many bytes, with this sight.
  abbrev pub telling_more : IsLawful f → (here there : S) (before left now : Option (List ℕ)) (old mid new : Progress) (n k : ℕ) (item : V) (sight : Sight) → (so_far : Telling f q IsSight first Kept here before left old mid n)
      → (took : Takes (f.says here) left now item) → f.goes here item ≡ there → length took.0 ≡ k → IsSight (first + sum_by interfaces_in so_far.sights) item sight
      → new.items ≡ mid.items + 1 → new.bytes ≡ counted (mid.bytes + k) → ((items : List V) (sights : List Sight) → Kept q items sights mid → Kept q (items ++ item ∷ []) (sights ++ sight ∷ []) new)
      → Telling f q IsSight first Kept there before now old new (n + 1)
  telling_more laws here there before left now old mid new n k item sight so_far took goes long is number bytes adds =
      let both = subst (λ (s : S). (t : Takes (f.says s) left now item) × (length t.0 ≡ k)) (sym so_far.leads) (took, long) in
      record {
        items = so_far.items ++ item ∷ [];
        count = omega (arith, length-append so_far.items (item ∷ []), so_far.count);
        leads = state_push f q so_far.items item ∙ ap (λ (s : S). f.goes s item) so_far.leads ∙ goes;
        took = record {
          bytes = so_far.took.bytes ++ both.0.0;
          texts = texts_push f q so_far.items item (so_far.took.bytes ++ both.0.0) both.0.0 [] (texts_more f laws q so_far.items so_far.took.bytes [] both.0.0 so_far.took.texts) both.0.1;
          took = Consumes-trans before left now so_far.took.bytes both.0.0 so_far.took.took both.0.2;
        };
        number = omega (arith, number, so_far.number);
        bytes = counted_more old.bytes mid.bytes new.bytes (length so_far.took.bytes) k so_far.bytes bytes ∙ ap (λ (m : ℕ). counted (old.bytes + m)) (sym (length-append so_far.took.bytes both.0.0 ∙ ap (λ (m : ℕ). length so_far.took.bytes + m) both.1));
        sights = so_far.sights ++ sight ∷ [];
        are_sights = sights_push IsSight first so_far.items so_far.sights item sight so_far.are_sights is;
        kept = adds so_far.items so_far.sights so_far.kept;
      }

  -- A run stops, and nothing more was counted.
  pub telling_ends : (To : S → List V → List Sight → Progress → Type 0) (here : S) (before left now : Option (List ℕ)) (failed : Bool) (most : ℕ) (old mid new : Progress) (n : ℕ) (fault : Option PcapError)
      → Telling f q IsSight first Kept here before left old mid n → n ≤ most → Stops (f.says here) left now failed n most fault → new.items ≡ mid.items → new.bytes ≡ mid.bytes
      → ((items : List V) (sights : List Sight) → Kept q items sights mid → To q items sights new) → TellsItems f q IsSight first To before now failed most old new fault
  telling_ends To here before left now failed most old mid new n fault so_far within stops number bytes tells = record {
    items = so_far.items;
    run = record {
      left = left;
      took = so_far.took;
      within = omega (arith, so_far.count);
      stops = subst (λ (s : S). Stops (f.says s) left now failed (length so_far.items) most fault) (sym so_far.leads) (subst (λ (k : ℕ). Stops (f.says here) left now failed k most fault) (sym so_far.count) stops);
    };
    number = omega (arith, number, so_far.number, so_far.count);
    bytes = bytes ∙ so_far.bytes;
    sights = so_far.sights;
    are_sights = so_far.are_sights;
    kept = tells so_far.items so_far.sights so_far.kept;
  }

  -- A run stops where it is.
  pub telling_stops : (here : S) (before left now : Option (List ℕ)) (failed : Bool) (most : ℕ) (old new : Progress) (n : ℕ) (fault : Option PcapError) → Telling f q IsSight first Kept here before left old new n
      → n ≤ most → Stops (f.says here) left now failed n most fault → TellsItems f q IsSight first Kept before now failed most old new fault
  telling_stops here before left now failed most old new n fault so_far within stops =
      telling_ends Kept here before left now failed most old new new n fault so_far within stops refl refl (λ items sights kept. kept)

  -- A run stops out of memory, after it took an item that it doesn't count.
  pub telling_lacks : IsLawful f → (To : S → List V → List Sight → Progress → Type 0) (here : S) (before left now : Option (List ℕ)) (failed : Bool) (most : ℕ) (old mid new : Progress) (n : ℕ) (item : V) (e : PcapError)
      → Telling f q IsSight first Kept here before left old mid n → n < most → Takes (f.says here) left now item → failed ≡ false → IsMemory e → AddsNothing mid new
      → ((items : List V) (sights : List Sight) → Kept q items sights mid → To q items sights new) → TellsItems f q IsSight first To before now failed most old new (Some e)
  telling_lacks laws To here before left now failed most old mid new n item e so_far fewer took unfailed memory nothing tells =
      let asked : TakesAsked (f.says here) left now = record { taken = took.0; from_stream = took.2; asked = λ k less. asked_text f laws here item took.0 took.1 k less } in
      telling_ends To here before left now failed most old mid new n (Some e) so_far (omega (arith, fewer)) (fewer, no_memory memory unfailed, asked) nothing.0 nothing.1 tells

  -- The kept progress at the end can be stated in another way.
  abbrev pub tells_as : (To : S → List V → List Sight → Progress → Type 0) (before now : Option (List ℕ)) (failed : Bool) (most : ℕ) (old new : Progress) (fault : Option PcapError) → (tells : TellsItems f q IsSight first Kept before now failed most old new fault)
      → (Kept q tells.items tells.sights new → To q tells.items tells.sights new) → TellsItems f q IsSight first To before now failed most old new fault
  tells_as To before now failed most old new fault tells moves = record {
    items = tells.items;
    run = tells.run;
    number = tells.number;
    bytes = tells.bytes;
    sights = tells.sights;
    are_sights = tells.are_sights;
    kept = moves tells.kept;
  }

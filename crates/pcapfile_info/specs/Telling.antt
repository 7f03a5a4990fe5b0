-- A run over the items of any format and the progress that it makes.
use Rattle.std.specs.Prelude.{⊤, ◌≡◌, ◌+◌, ℕ, List, [], ◌∷◌, length, Bool, true, false, Option, Some, None, Result, Ok, Err}
use Rattle.pcap_core.specs.declared.errors.PcapError.{PcapError}
use Rattle.pcap_items.specs.Format.{Format, state_after}
use Rattle.pcap_items.specs.Takes.{TakesTexts, TakesItems}
use Rattle.pcap_ng.specs.Blocks.{Item}
use Rattle.pcapfile_run.specs.Passing.{counted}
use Rattle.pcapfile_info.specs.declared.progress.Progress.{Progress}
use Rattle.pcapfile_info.specs.declared.seen.Sight.{Sight}
use Rattle.pcapfile_info.specs.declared.seen.Sight.TheVariants.{Packet}
use Rattle.pcapfile_info.specs.declared.totals.Totals.{Totals}
use Rattle.pcapfile_info.specs.declared.seen.Seen.{Seen}
use Rattle.pcapfile_info.specs.Sights.{IsBlockSight}
use Rattle.pcapfile_info.specs.Totals.{Adds, AddsAlone, IsFirstBy, Stay, interfaces_in}

-- The progress has one more item of this many bytes, and the totals count it.
abbrev pub AddsItem : Sight → ℕ → Progress → Progress → Type 0
AddsItem sight bytes old new = (new.items ≡ old.items + 1) × (new.bytes ≡ counted (old.bytes + bytes)) × Adds sight old.totals new.totals

-- The progress has one more packet of this many bytes, and only the total of all packets counts it.
abbrev pub AddsPacketAlone : Seen → ℕ → Progress → Progress → Type 0
AddsPacketAlone seen bytes old new = (new.items ≡ old.items + 1) × (new.bytes ≡ counted (old.bytes + bytes)) × AddsAlone seen old.totals new.totals

-- The progress has no more items and bytes, and its totals are of the same items.
abbrev pub AddsNothing : Progress → Progress → Type 0
AddsNothing old new = (new.items ≡ old.items) × (new.bytes ≡ old.bytes) × Stay old.totals new.totals

-- The block has a packet, which is the first one of its interface.
abbrev pub IsFirstPacket : Totals → Item → Type 0
IsFirstPacket totals item = (seen : Seen) × IsBlockSight (length totals.interfaces.items) item (Packet seen) × IsFirstBy totals seen

-- The counts are unchanged.
abbrev pub SameCounts : Progress → Progress → Type 0
SameCounts old new = (new.items ≡ old.items) × (new.bytes ≡ old.bytes) × (new.totals ≡ old.totals)

-- The totals use these sights of the items; `n` interfaces are described before the first item.
abbrev pub AreSights : {V : Type 0} → (ℕ → V → Sight → Type 0) → ℕ → List V → List Sight → Type 0
AreSights IsSight n [] [] = ⊤
AreSights IsSight n [] (sight ∷ sights) = ⊥
AreSights IsSight n (v ∷ vs) [] = ⊥
AreSights IsSight n (v ∷ vs) (sight ∷ sights) = IsSight n v sight × AreSights IsSight (n + interfaces_in sight) vs sights

-- The totals of the progress are those of these sights.
abbrev pub KeepsTotals : {S V : Type 0} → (List Sight → Totals → Type 0) → S → List V → List Sight → Progress → Type 0
KeepsTotals Are q items sights progress = Are sights progress.totals

-- Kept relates the items after a state, and their sights, to the progress.
module _ {S V : Type 0} (f : Format S V) (q : S) (IsSight : ℕ → V → Sight → Type 0) (first : ℕ) (Kept : S → List V → List Sight → Progress → Type 0) where
  -- The run took exactly n items that lead to this state, and keeps their sights.
  pub record Telling (here : S) (before left : Option (List ℕ)) (old new : Progress) (n : ℕ) : Type 0 where
    pub items : List V
    pub count : length items ≡ n
    pub leads : state_after f q items ≡ here
    pub took : TakesTexts f q items before left
    pub number : new.items ≡ old.items + n
    pub bytes : new.bytes ≡ counted (old.bytes + length took.bytes)
    pub sights : List Sight
    pub are_sights : AreSights IsSight first items sights
    pub kept : Kept q items sights new

  -- The run took items up to a reason to stop, at most this many, and keeps their sights.
  pub record TellsItems (before now : Option (List ℕ)) (failed : Bool) (most : ℕ) (old new : Progress) (fault : Option PcapError) : Type 0 where
    pub items : List V
    pub run : TakesItems f q before now failed most items fault
    pub number : new.items ≡ old.items + length items
    pub bytes : new.bytes ≡ counted (old.bytes + length run.took.bytes)
    pub sights : List Sight
    pub are_sights : AreSights IsSight first items sights
    pub kept : Kept q items sights new

module _ {S V : Type 0} (f : Format S V) (IsSight : ℕ → V → Sight → Type 0) (first : ℕ) (Kept : S → List V → List Sight → Progress → Type 0) where
  -- A run that reached the first state has also reached the second.
  abbrev pub GoesOn : S → S → Option (List ℕ) → Option (List ℕ) → Progress → Progress → Type 0
  GoesOn here there left now mid new =
      (q : S) (before : Option (List ℕ)) (old : Progress) → Telling f q IsSight first Kept here before left old mid mid.items
      → Telling f q IsSight first Kept there before now old new new.items

  -- To relates a run's end, with a fault or none, to the progress.
  module _ (To : Option PcapError → S → List V → List Sight → Progress → Type 0) where
    -- A run that reached this state ends with this fault, or none.
    abbrev pub Ends : S → Option (List ℕ) → Option (List ℕ) → Bool → ℕ → Progress → Progress → Option PcapError → Type 0
    Ends here left now failed most mid new fault =
        (q : S) (before : Option (List ℕ)) (old : Progress) → Telling f q IsSight first Kept here before left old mid mid.items
        → TellsItems f q IsSight first (To fault) before now failed most old new fault

    -- A turn of a run over a stream: it returns whether the run goes on, and then no read has failed.
    abbrev pub TurnGives : S → S → Option (List ℕ) → Option (List ℕ) → Bool → ℕ → Progress → Progress → Result Bool PcapError → Type 0
    TurnGives here there left now failed most mid new (Ok true) = (failed ≡ false) × GoesOn here there left now mid new
    TurnGives here there left now failed most mid new (Ok false) = Ends here left now failed most mid new None
    TurnGives here there left now failed most mid new (Err e) = Ends here left now failed most mid new (Some e)

-- The results of a sort.
use Rattle.std.specs.Prelude.{◌≡◌, ◌<◌, ◌++◌, ◌⊎◌, ℕ, List, [], ◌∷◌, length, map, All, Bool, true, Option, Some}
use Rattle.std.specs.Io.KnownBytes.{IsAtEnd, Keeps}
use Rattle.pcap_core.specs.Errors.{IsIo}
use Rattle.pcap_items.specs.Writing.{Writes}
use Rattle.pcapfile_sort.specs.declared.sorting.Refusal.{Refusal}
use Rattle.pcapfile_sort.specs.declared.sorting.Sorted.{Sorted}
use Rattle.pcapfile_sort.specs.declared.sorting.Sorted.TheVariants.{Whole, Unopened, Refused, TooLong, Memory, Unread, Changed, Unwritten}
use Rattle.pcapfile_sort.specs.Order.{IsInOrder}
use Rattle.pcapfile_sort.specs.Ranked.{Ranked, texts_of}
use Rattle.pcapfile_sort.specs.Sortable.{Sortable}

-- The bytes of the capture are known, and both passes read the same ones.
abbrev pub StaysSame : Option (List ℕ) → Option (List ℕ) → Type 0
StaysSame capture again = (bytes : List ℕ) × (capture ≡ Some bytes) × (again ≡ Some bytes)

-- Each of these records was read again as a record of its rank and length, and as the same one if the capture stays the same.
pub record IsReadAgain (Is : Ranked → Type 0) (Stays : Type 0) (records copies : List Ranked) : Type 0 where
  pub each : All Is copies
  pub ranks : map (λ (ranked : Ranked). ranked.rank) copies ≡ map (λ (ranked : Ranked). ranked.rank) records
  pub lengths : map (λ (ranked : Ranked). length ranked.text) copies ≡ map (λ (ranked : Ranked). length ranked.text) records
  pub same : Stays → copies ≡ records

module _ (f : Sortable) (capture : Option (List ℕ)) where
  -- After some records, the rest of the capture is refused or can't be read, and this is the place of the rest.
  pub record RefusesRest (refusal : Refusal) : Type 0 where
    pub opening : f.Opening
    pub records : List Ranked
    pub rest : Option (List ℕ)
    pub begins : f.Begins opening records capture rest
    pub cause : f.RefusesRest opening records rest refusal.read_failed refusal.error
    pub byte : refusal.byte ≡ length (f.lead opening ++ texts_of records)

  -- The capture begins with records that need memory.
  pub record NeedsMemory : Type 0 where
    pub opening : f.Opening
    pub records : List Ranked
    pub rest : Option (List ℕ)
    pub begins : f.Begins opening records capture rest
    pub some : 0 < length records

  -- The capture begins with more records or bytes than a sort counts.
  pub record IsTooLong : Type 0 where
    pub opening : f.Opening
    pub records : List Ranked
    pub rest : Option (List ℕ)
    pub begins : f.Begins opening records capture rest
    pub many : f.AreTooMany opening records

  module _ (again out out_now : Option (List ℕ)) where
    -- The whole capture was read. Of its opening and its records in order, up to the rest, all was written but the bytes that are left.
    pub record WritesUpTo (rest : List Ranked) (left : List ℕ) : Type 0 where
      pub opening : f.Opening
      pub records : List Ranked
      pub end : Option (List ℕ)
      pub begins : f.Begins opening records capture end
      pub at_end : IsAtEnd end
      pub front : List Ranked
      pub in_order : IsInOrder records (front ++ rest)
      pub copies : List Ranked
      pub copied : IsReadAgain (f.Is opening) (StaysSame capture again) front copies
      pub went : Writes (f.lead opening ++ texts_of copies) left out out_now

    -- The sort stopped at a record, and all records before it in order were written.
    abbrev pub StopsEarly : Type 0
    StopsEarly = (next : Ranked) × (rest : List Ranked) × WritesUpTo (next ∷ rest) []

    -- The result of a sort. Nothing is written unless the whole capture was read without an error.
    abbrev pub Sorts : Bool → Sorted → Type 0
    Sorts failed Whole = WritesUpTo [] []
    Sorts failed (Unopened e) = f.RefusesOpening capture e × Keeps out out_now
    Sorts failed (Refused refusal) = RefusesRest refusal × Keeps out out_now
    Sorts failed TooLong = IsTooLong × Keeps out out_now
    Sorts failed Memory = NeedsMemory × (Keeps out out_now ⊎ StopsEarly)
    Sorts failed (Unread e) = (failed ≡ true) × StopsEarly
    Sorts failed Changed = (StaysSame capture again → ⊥) × StopsEarly
    Sorts failed (Unwritten e) = IsIo e × (rest : List Ranked) × (left : List ℕ) × (0 < length left) × WritesUpTo rest left

-- The records that the second pass reads again and writes.
use Rattle.std.specs.Prelude.{◌≡◌, ◌<◌, ◌++◌, ◌⊎◌, ℕ, List, [], ◌∷◌, length, map, All, Bool, true, Option, Some, Result, Ok, Err}
use Rattle.std.specs.Io.KnownBytes.{Appends, Keeps}
use Rattle.pcap_core.specs.Errors.{IsIo}
use Rattle.pcap_items.specs.Writing.{AppendsPart, Writes}
use Rattle.pcapfile_sort.specs.declared.entry.Entry.{Entry}
use Rattle.pcapfile_sort.specs.declared.sorting.Sorted.{Sorted}
use Rattle.pcapfile_sort.specs.declared.sorting.Sorted.TheVariants.{Whole, Memory, Unread, Changed, Unwritten}
use Rattle.pcapfile_sort.specs.Again.{GivesAt}
use Rattle.pcapfile_sort.specs.Entries.{AreInOrder, led_to}
use Rattle.pcapfile_sort.specs.Ranked.{Ranked, texts_of}
use Rattle.pcapfile_sort.specs.Sortable.{Sortable}

module _ (Is : Ranked → Type 0) (again : Option (List ℕ)) where
  -- A record with the rank and the length of an entry. If the capture's bytes are known, it is at the entry's place.
  pub record IsCopy (entry : Entry) (copy : Ranked) : Type 0 where
    pub ranked : Is copy
    pub rank : copy.rank ≡ entry.rank
    pub long : length copy.text ≡ entry.length
    pub there : GivesAt again entry.place copy.text

  -- The known bytes have such a record.
  abbrev pub HasCopy : Entry → Type 0
  HasCopy entry = (bytes : List ℕ) × (again ≡ Some bytes) × (copy : Ranked) × IsCopy entry copy

  -- The record of an entry was read again and written, or something failed there.
  abbrev pub CopiesOne : Entry → Bool → Option (List ℕ) → Option (List ℕ) → Result (Unit {0}) Sorted → Type 0
  CopiesOne entry failed out out_now (Ok done) = (copy : Ranked) × IsCopy entry copy × Appends out out_now copy.text
  CopiesOne entry failed out out_now (Err Memory) = Keeps out out_now
  CopiesOne entry failed out out_now (Err (Unread e)) = (failed ≡ true) × Keeps out out_now
  CopiesOne entry failed out out_now (Err Changed) = (HasCopy entry → ⊥) × Keeps out out_now
  CopiesOne entry failed out out_now (Err (Unwritten e)) = IsIo e × (copy : Ranked) × IsCopy entry copy × AppendsPart out out_now copy.text
  CopiesOne entry failed out out_now (Err _) = ⊥

  -- These are the records of entries, read again.
  pub record AreCopies (entries : List Entry) (copies : List Ranked) : Type 0 where
    pub each : All Is copies
    pub ranks : map (λ (copy : Ranked). copy.rank) copies ≡ map (λ (entry : Entry). entry.rank) entries
    pub lengths : map (λ (copy : Ranked). length copy.text) copies ≡ map (λ (entry : Entry). entry.length) entries
    pub same : (bytes : List ℕ) → again ≡ Some bytes → copies ≡ map (led_to bytes) entries

  -- The records of the entries before the next one were read again and written, and something failed at the next one.
  pub record StopsCopying (entries : List Entry) (failed : Bool) (out out_now : Option (List ℕ)) (stop : Sorted) : Type 0 where
    pub front : List Entry
    pub next : Entry
    pub rest : List Entry
    pub split : entries ≡ front ++ next ∷ rest
    pub copies : List Ranked
    pub copied : AreCopies front copies
    pub mid : Option (List ℕ)
    pub went : Appends out mid (texts_of copies)
    pub stops : CopiesOne next failed mid out_now (Err stop)

  -- The records of all entries were read again and written, or something failed at one of them.
  abbrev pub CopiesAll : List Entry → Bool → Option (List ℕ) → Option (List ℕ) → Result (Unit {0}) Sorted → Type 0
  CopiesAll entries failed out out_now (Ok done) = (copies : List Ranked) × AreCopies entries copies × Appends out out_now (texts_of copies)
  CopiesAll entries failed out out_now (Err stop) = StopsCopying entries failed out out_now stop

  module _ (lead : List ℕ) (entries : List Entry) (out out_now : Option (List ℕ)) where
    -- Of these first bytes and the records in order of rank, up to the rest of the entries, all was written but the bytes that are left.
    pub record WritesEntries (rest : List Entry) (left : List ℕ) : Type 0 where
      pub front : List Entry
      pub in_order : AreInOrder entries (front ++ rest)
      pub copies : List Ranked
      pub copied : AreCopies front copies
      pub went : Writes (lead ++ texts_of copies) left out out_now

    -- These first bytes and the records of the entries in order of rank were written, or something failed.
    abbrev pub EndsWriting : Bool → Sorted → Type 0
    EndsWriting failed Whole = WritesEntries [] []
    EndsWriting failed Memory = (0 < length entries) × (Keeps out out_now ⊎ ((next : Entry) × (rest : List Entry) × WritesEntries (next ∷ rest) []))
    EndsWriting failed (Unread e) = (failed ≡ true) × (next : Entry) × (rest : List Entry) × WritesEntries (next ∷ rest) []
    EndsWriting failed Changed = (next : Entry) × (rest : List Entry) × (HasCopy next → ⊥) × WritesEntries (next ∷ rest) []
    EndsWriting failed (Unwritten e) = IsIo e × (rest : List Entry) × (left : List ℕ) × (0 < length left) × WritesEntries rest left
    EndsWriting failed _ = ⊥

-- What a second pass leaves: the output before and after it, whether a read failed, and the result.
pub record Left : Type 0 where
  pub out : Option (List ℕ)
  pub out_now : Option (List ℕ)
  pub failed : Bool
  pub sorted : Sorted

-- After this opening of a format, the second pass over these entries leaves this.
abbrev pub EndsSecond : (f : Sortable) → f.Opening → Option (List ℕ) → List Entry → Left → Type 0
EndsSecond f opening again entries left = EndsWriting (f.Is opening) again (f.lead opening) entries left.out left.out_now left.failed left.sorted

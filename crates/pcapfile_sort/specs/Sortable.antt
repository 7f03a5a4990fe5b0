-- Formats whose captures are sorted.
use Rattle.std.specs.Prelude.{◌++◌, ℕ, List, All, Bool, Option}
use Rattle.std.specs.Io.KnownBytes.{Consumes}
use Rattle.pcap_core.specs.declared.errors.PcapError.{PcapError}
use Rattle.pcapfile_sort.specs.Ranked.{Ranked, texts_of}

-- The facts about a format on which a sort depends.
pub record Sortable : Type 1 where
  -- what a capture begins with before its first record
  pub Opening : Type 0
  -- the bytes of an opening
  pub lead : Opening → List ℕ
  -- after this opening, these bytes are a record of this rank, as far as the second pass can see
  pub Is : Opening → Ranked → Type 0
  -- the capture begins with this opening and these records, and the rest follows them
  pub Begins : Opening → List Ranked → Option (List ℕ) → Option (List ℕ) → Type 0
  -- after this opening and these records, the rest is refused with an error, or a read failed
  pub RefusesRest : Opening → List Ranked → Option (List ℕ) → Bool → PcapError → Type 0
  -- the opening and the records are more than a sort counts
  pub AreTooMany : Opening → List Ranked → Type 0
  -- the opening of a capture is refused with an error, or can't be read
  pub RefusesOpening : Option (List ℕ) → PcapError → Type 0

-- The laws of such a format.
pub record IsSortable (f : Sortable) : Type 0 where
  -- a capture that begins with an opening and records begins with their bytes
  pub took : (opening : f.Opening) (records : List Ranked) (capture rest : Option (List ℕ)) → f.Begins opening records capture rest → Consumes capture rest (f.lead opening ++ texts_of records)
  -- the second pass takes each record for one
  pub each : (opening : f.Opening) (records : List Ranked) (capture rest : Option (List ℕ)) → f.Begins opening records capture rest → All (f.Is opening) records

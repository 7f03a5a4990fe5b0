-- The results of calls that fill a buffer from a stream.
use Rattle.std.specs.Prelude.{◌≡◌, ◌<◌, ◌+◌, ◌⊎◌, ℕ, List, [], ◌++◌, length, Bool, true, false, Option, IfSome, Result, Ok, Err}
use Rattle.std.specs.Io.KnownBytes.{Consumes, Keeps, IsAtEnd}
use Rattle.pcap_core.specs.declared.errors.PcapError.{PcapError}
use Rattle.pcap_core.specs.Errors.{IsMemory, IsIo}

-- Adds old new before after n: the held bytes are the old ones, followed by n bytes that the stream gave.
pub record Adds (old new : List ℕ) (before after : Option (List ℕ)) (n : ℕ) : Type 0 where
  pub taken : List ℕ
  pub count : length taken ≡ n
  pub added : new ≡ old ++ taken
  pub from_stream : Consumes before after taken

-- AddsFewer n old new before after: fewer than n bytes that the stream gave were added.
abbrev pub AddsFewer : ℕ → List ℕ → List ℕ → Option (List ℕ) → Option (List ℕ) → Type 0
AddsFewer n old new before after = (k : ℕ) × (k < n) × Adds old new before after k

-- TellsCause old new e: memory ran out and the flag is unchanged, or a read failed and the flag is set.
abbrev pub TellsCause : Bool → Bool → PcapError → Type 0
TellsCause old new e = (IsMemory e × (new ≡ old)) ⊎ (IsIo e × (new ≡ true))

-- FillGives: n bytes were added, or nothing was held and the stream was at its end.
abbrev pub FillGives : ℕ → List ℕ → List ℕ → Option (List ℕ) → Option (List ℕ) → Bool → Type 0
FillGives n old new before after true = Adds old new before after n
FillGives n old new before after false = (old ≡ []) × (new ≡ []) × IsAtEnd before × Keeps before after

-- EndsInside n held known: fewer than n bytes are left, and something is held or left.
abbrev pub EndsInside : ℕ → List ℕ → Option (List ℕ) → Type 0
EndsInside n held known = IfSome known (λ rest. (length rest < n) × (0 < length held + length rest))

-- HasCauseToFill: why n bytes were not added: memory ran out, a read failed, or the stream ended before them.
abbrev pub HasCauseToFill : ℕ → List ℕ → Option (List ℕ) → Bool → Bool → PcapError → Type 0
HasCauseToFill n held before old new e = TellsCause old new e ⊎ (IsIo e × (new ≡ old) × EndsInside n held before)

-- TakesFewer n before after: fewer than n bytes were taken.
abbrev pub TakesFewer : ℕ → Option (List ℕ) → Option (List ℕ) → Type 0
TakesFewer n before after = (taken : List ℕ) × Consumes before after taken × (length taken < n)

-- EndsBefore n known: fewer than n bytes are left.
abbrev pub EndsBefore : ℕ → Option (List ℕ) → Type 0
EndsBefore n known = IfSome known (λ rest. length rest < n)

-- HasCauseToTake: why n bytes were not taken: memory ran out, a read failed, or the stream ended before them.
abbrev pub HasCauseToTake : ℕ → Option (List ℕ) → Bool → Bool → PcapError → Type 0
HasCauseToTake n before old new e = TellsCause old new e ⊎ (IsIo e × (new ≡ old) × EndsBefore n before)

-- FillsArray: the array is what the stream gave; or fewer bytes were taken, since a read failed or the stream ended before them.
abbrev pub FillsArray : Option (List ℕ) → Option (List ℕ) → Bool → Bool → List ℕ → Result (Unit {0}) PcapError → Type 0
FillsArray before after old new bytes (Ok u) = (new ≡ old) × Consumes before after bytes
FillsArray before after old new bytes (Err e) =
    IsIo e × TakesFewer (length bytes) before after × ((new ≡ true) ⊎ ((new ≡ old) × EndsBefore (length bytes) before))

-- An input of which the next bytes were read ahead.
use Rattle.std.specs.Prelude.{◌≡◌, ◌<◌, ◌++◌, ℕ, List, take, Bool, true, false, Option}
use Rattle.std.specs.Io.KnownBytes.{Consumes, IsAtEnd, prepend_known}
use Rattle.pcapfile_selected.specs.declared.ahead.Ahead.{Ahead}

-- The bytes that were read ahead and not taken.
abbrev pub held_in : {R : Type 0} → Ahead R → List ℕ
held_in ahead = take ahead.len ahead.held

-- The bytes that reads will give from here on, where those of the input are known.
abbrev pub remaining_in : {R : Type 0} → (R → Option (List ℕ)) → Ahead R → Option (List ℕ)
remaining_in remaining ahead = prepend_known (held_in ahead) (remaining ahead.input)

-- More bytes of the input were read ahead.
pub record ReadsAhead (old new : List ℕ) (input input_now : Option (List ℕ)) : Type 0 where
  pub bytes : List ℕ
  pub took : Consumes input input_now bytes
  pub held : new ≡ old ++ bytes

-- More bytes are held, or the input is at its end.
abbrev pub HoldsMore : ℕ → ℕ → Option (List ℕ) → Bool → Type 0
HoldsMore old new input true = old < new
HoldsMore old new input false = IsAtEnd input

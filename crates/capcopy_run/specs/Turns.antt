-- This file defines one turn of a list, after which the list goes on or ends.
use Rattle.std.specs.Prelude.{ℕ, List, drop, Bool, true, false, Option, Result, Ok, Err}
use Rattle.std.specs.Io.KnownBytes.{prepend_known}
use Rattle.pcap_items.specs.Format.{Format}
use Rattle.pcap_program.specs.declared.exit.Exit.{Exit}
use Rattle.capcopy_run.specs.Listing.{Listing, ListsItems, streams}

-- What a turn of a list changes: the state of the format, the input, the output, and the number of lines so far.
pub record Turn (S : Type 0) : Type 0 where
  pub state : S
  pub input : Option (List ℕ)
  pub output : Option (List ℕ)
  pub listed : ℕ

-- A turn with this state, input, output and number of lines.
abbrev pub turn : {S : Type 0} → S → Option (List ℕ) → Option (List ℕ) → ℕ → Turn S
turn state input output listed = record { state = state; input = input; output = output; listed = listed }

-- What a walk over the buffered bytes changes, which reads no more of the input.
pub record Walk (S : Type 0) : Type 0 where
  pub state : S
  pub output : Option (List ℕ)
  pub listed : ℕ

-- A walk with this state, output and number of lines.
abbrev pub walk : {S : Type 0} → S → Option (List ℕ) → ℕ → Walk S
walk state output listed = record { state = state; output = output; listed = listed }

module _ {S V : Type 0} (IsLine : ℕ → V → List ℕ → Type 0) (f : Format S V) where
  -- GoesOn: any list of n items that leads to `here` continues to a list of m items that leads to `there`.
  abbrev pub GoesOn : S → S → Option (List ℕ) → Option (List ℕ) → Option (List ℕ) → Option (List ℕ) → ℕ → ℕ → Type 0
  GoesOn here there left now mid out n m =
      (q : S) (before start : Option (List ℕ)) → Listing IsLine f q here before left start mid n → Listing IsLine f q there before now start out m

  -- Ends: any list of n items that leads to `here` ends with this result.
  abbrev pub Ends : S → Option (List ℕ) → Option (List ℕ) → Option (List ℕ) → Option (List ℕ) → ℕ → ℕ → Result (Unit {0}) Exit → Type 0
  Ends here left now mid out n most result =
      (q : S) (before start : Option (List ℕ)) → Listing IsLine f q here before left start mid n → ListsItems IsLine f q (streams before start) (streams now out) most result

  -- TurnGives: a turn over a stream returns whether the list goes on.
  abbrev pub TurnGives : Turn S → Turn S → ℕ → Result Bool Exit → Type 0
  TurnGives old new most (Ok true) = GoesOn old.state new.state old.input new.input old.output new.output old.listed new.listed
  TurnGives old new most (Ok false) = Ends old.state old.input new.input old.output new.output old.listed most (Ok tt)
  TurnGives old new most (Err exit) = Ends old.state old.input new.input old.output new.output old.listed most (Err exit)

  -- WalkGives: a walk over the buffered bytes of a stream returns how many it used, or ends the list, whatever follows these bytes.
  abbrev pub WalkGives : List ℕ → Walk S → Walk S → ℕ → Result ℕ Exit → Type 0
  WalkGives shown old new most (Ok used) =
      (behind : Option (List ℕ))
      → GoesOn old.state new.state (prepend_known shown behind) (prepend_known (drop used shown) behind) old.output new.output old.listed new.listed
  WalkGives shown old new most (Err exit) =
      (behind now : Option (List ℕ)) → Ends old.state (prepend_known shown behind) now old.output new.output old.listed most (Err exit)

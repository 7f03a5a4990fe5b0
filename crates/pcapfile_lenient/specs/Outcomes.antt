-- This file defines what a repair made of a capture.
use Rattle.std.specs.Prelude.{ℕ, ◌+◌, ◌==◌, Bool, not, Option, None, Some, if◌then◌else◌}
use Rattle.pcapfile_lenient.specs.declared.summary.Outcome.{Outcome}
use Rattle.pcapfile_lenient.specs.declared.summary.Outcome.TheVariants.{Kept, Repaired, Guessed}
use Rattle.pcapfile_lenient.specs.declared.summary.Summary.{Summary}
use Rattle.pcapfile_rows.specs.Changes.{is_guessed, is_left_out}
use Rattle.pcapfile_rows.specs.declared.change.Change.{Change}

-- The worse of two outcomes: a guess is worse than a repair, and a repair is worse than a sound item.
abbrev pub worse : Outcome → Outcome → Outcome
worse Guessed other = Guessed
worse Kept other = other
worse Repaired Guessed = Guessed
worse Repaired other = Repaired

-- The exit status of a repair.
abbrev pub status_of : Outcome → ℕ
status_of Kept = 0
status_of Repaired = 5
status_of Guessed = 6

-- The outcome of one of these: `bad` if there are any, and otherwise a sound capture.
abbrev pub if_any : ℕ → Outcome → Outcome
if_any n bad = if n == 0 then Kept else bad

-- The outcome of a capture: the worst of that of its beginning and of those of its packets, blocks and skipped bytes.
abbrev pub outcome_of : Summary → Outcome
outcome_of summary = worse (if_any summary.guessed Guessed) (worse summary.opening
    (if_any (summary.repaired + (summary.left_out + summary.skipped)) Repaired))

-- What becomes of the packet or block that a report is about, unless it is left out.
abbrev pub change_outcome : Change → Option Outcome
change_outcome change = if is_left_out change then None else Some (if is_guessed change then Guessed else Repaired)

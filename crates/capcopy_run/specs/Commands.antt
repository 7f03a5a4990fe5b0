-- This file defines the action that the words of a run select.
use Rattle.std.specs.Prelude.{ℕ, List, Option, None, Some}
use Rattle.capcopy_run.specs.declared.commands.Command.{Command}
use Rattle.capcopy_run.specs.declared.commands.Command.TheVariants as commands
use Rattle.capcopy_run.specs.Words.{AskForList, AskForBlocks, AskForCopy, AskForNothing}

-- AsksFor words command: the words select this command, or none that the program knows.
abbrev pub AsksFor : List (List ℕ) → Option Command → Type 0
AsksFor words None = AskForNothing words
AsksFor words (Some commands.List) = AskForList words
AsksFor words (Some (commands.Copy under)) = AskForCopy under words
AsksFor words (Some commands.Blocks) = AskForBlocks words

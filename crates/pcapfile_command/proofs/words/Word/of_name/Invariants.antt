use Rattle.std.proofs.Common.{◌<◌}
use Rattle.std.specs.Prelude.{◌≢◌}
use Rattle.pcapfile_command.specs.declared.words.Word.{Word}
use Rattle.pcapfile_command.specs.Words.{name_of}
use Rattle.pcapfile_command.proofs.WordNames.{place_of}
use Rattle.pcapfile_command.proofs.words.Word.of_name.Given as goal

abbrev pub invariant-loop-word : goal.invariant-loop-word
invariant-loop-word l = (word : Word) → place_of word < l.word-index → name_of word ≢ l.name

-- The words of the program.
use Rattle.std.specs.Prelude.{◌≡◌, ◌≢◌, ℕ, List, Bool, true, false, Option, None, Some, codes}
use Rattle.pcapfile_command.specs.declared.words.Word.{Word}
use Rattle.pcapfile_command.specs.declared.words.Word.TheVariants.{Check, Info, List as Lists, Convert, Cut, Join, Merge, Sort, Repair}

-- A word that can read what `repair` would write of a capture: info, convert, cut or merge.
abbrev pub reads_repaired : Word → Bool
reads_repaired Info = true
reads_repaired Convert = true
reads_repaired Cut = true
reads_repaired Merge = true
reads_repaired _ = false

-- The name of a word, by which a user asks for it.
abbrev pub name_of : Word → List ℕ
name_of Check = codes "check"
name_of Info = codes "info"
name_of Lists = codes "list"
name_of Convert = codes "convert"
name_of Cut = codes "cut"
name_of Join = codes "join"
name_of Merge = codes "merge"
name_of Sort = codes "sort"
name_of Repair = codes "repair"

-- IsWordOf name word: this is the word of the name, or no word has it.
abbrev pub IsWordOf : List ℕ → Option Word → Type 0
IsWordOf name (Some word) = name_of word ≡ name
IsWordOf name None = (word : Word) → name_of word ≢ name

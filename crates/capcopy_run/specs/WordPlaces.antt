-- This file defines the contents of the sources of words.
use Rattle.std.specs.Prelude.{ℕ, List}
use Rattle.capcopy_run.specs.declared.words.Arguments.{Arguments}
use Rattle.capcopy_run.specs.declared.words.WordList.{WordList}
use Rattle.capcopy_run.specs.Words.{texts_of}

-- The environment of these arguments.
abbrev pub environment_of : {E : Type 0} → Arguments E → E
environment_of arguments = arguments.env

-- The words of a list in memory.
abbrev pub words_in : WordList → List (List ℕ)
words_in list = texts_of list.words.now

-- This file defines what the program does when it is run with given words.
use Rattle.std.specs.Prelude.{◌≡◌, ◌<◌, ◌⊎◌, ⊤, ℕ, List, [], ◌∷◌, Option, None, Some, Result, Ok, Err, IfSome, IsUtf8, length, take}
use Rattle.std.specs.declared.env.FillError.{FillError}
use Rattle.std.specs.declared.env.FillError.TheVariants.{NotPresent, TooLong}
use Rattle.std.specs.Io.KnownBytes.{Keeps}
use Rattle.pcap_classic.specs.declared.run.copy.Under.{Under}
use Rattle.pcap_program.specs.declared.exit.Exit.{Exit}
use Rattle.pcap_program.specs.declared.exit.Exit.TheVariants.{Usage}
use Rattle.capcopy_run.specs.declared.words.Place.{Place}
use Rattle.capcopy_run.specs.declared.words.Place.TheVariants.{Empty, Unknown, Text}
use Rattle.capcopy_run.specs.declared.words.Texts.{Texts}
use Rattle.capcopy_run.specs.declared.words.Texts.TheVariants.{Nothing, One, Two, Three}
use Rattle.capcopy_run.specs.BlockLines.{block_lines}
use Rattle.capcopy_run.specs.Copying.{CopiesUntil}
use Rattle.pcap_program.specs.Exits.{IsMemoryExit}
use Rattle.capcopy_run.specs.Exits.{IsOfKnownWord}
use Rattle.capcopy_run.specs.Listing.{ListsUntil}
use Rattle.capcopy_run.specs.PacketLines.{packet_lines}
use Rattle.capcopy_run.specs.Words.{AskForList, AskForBlocks, AskForCopy, AskForNothing}

-- TellsWord word result room: the word was copied to the front of the room, or is longer than the room, or doesn't exist.
abbrev pub TellsWord : Option (List ℕ) → Result ℕ FillError → List ℕ → Type 0
TellsWord (Some word) (Ok n) room = take n room ≡ word
TellsWord (Some word) (Err TooLong) room = length room < length word
TellsWord None (Err NotPresent) room = ⊤
TellsWord _ _ room = ⊥

-- IsStrange word: the program doesn't know the word, because it is longer than 64 bytes or isn't UTF-8.
abbrev pub IsStrange : List ℕ → Type 0
IsStrange word = (64 < length word) ⊎ (IsUtf8 word → ⊥)

-- StandsAt word place: `place` is what was found for the word at one index.
abbrev pub StandsAt : Option (List ℕ) → Place → Type 0
StandsAt None Empty = ⊤
StandsAt (Some word) (Text text) = text.now ≡ word
StandsAt (Some word) Unknown = IsStrange word
StandsAt _ _ = ⊥

-- AreTexts words texts: `texts` are the words, or the words select no action.
abbrev pub AreTexts : List (List ℕ) → Texts → Type 0
AreTexts words Nothing = AskForNothing words
AreTexts words (One first) = first.now ∷ [] ≡ words
AreTexts words (Two first second) = first.now ∷ second.now ∷ [] ≡ words
AreTexts words (Three first second third) = first.now ∷ second.now ∷ third.now ∷ [] ≡ words

-- Runs: a run with these words, and at most this many lines or packets, reads and writes this and ends with this exit.
pub record Runs (words : List (List ℕ)) (most : ℕ) (before now out_before out_now : Option (List ℕ)) (exit : Exit) : Type 0 where
  pub listed : AskForList words → IfSome before (λ s. ListsUntil packet_lines most s now out_before out_now exit)
  pub list_takes_no_memory : AskForList words → IsMemoryExit exit → ⊥
  pub blocks_listed : AskForBlocks words → IfSome before (λ s. ListsUntil block_lines most s now out_before out_now exit)
  pub copied : (under : Under) → AskForCopy under words → CopiesUntil under before now out_before out_now most exit
  pub known : (AskForNothing words → ⊥) → IsOfKnownWord exit
  pub usage : AskForNothing words → exit ≡ Usage
  pub unread : AskForNothing words → Keeps before now
  pub unwritten : AskForNothing words → Keeps out_before out_now

-- RunsBuffered: such a run over an input with a buffer of its own, or there was no memory for that buffer.
abbrev pub RunsBuffered : List (List ℕ) → ℕ → Option (List ℕ) → Option (List ℕ) → Option (List ℕ) → Exit → Type 0
RunsBuffered words most before out_before out_now exit =
    ((now : Option (List ℕ)) × Runs words most before now out_before out_now exit) ⊎ (IsMemoryExit exit × Keeps out_before out_now)

-- This file defines what is written for the flaws of blocks, one after another, when only the byte order of their section is known.
use Rattle.std.specs.Prelude.{◌≡◌, ℕ, List, Bool, Option, Result, Ok, Err}
use Rattle.pcap_core.specs.declared.errors.PcapError.{PcapError}
use Rattle.pcap_tolerant_captures.specs.Blocks.{Item, as_is_format}
use Rattle.pcap_tolerant_captures.specs.Outlines.{known_order}
use Rattle.pcap_tolerant_captures.specs.State.{State}
use Rattle.pcap_program.specs.declared.exit.Exit.{Exit}
use Rattle.pcapfile_as_is.specs.BlockLines.{block_lines}
use Rattle.pcapfile_as_is.specs.Counts.{block_size, is_flawed}
use Rattle.pcapfile_as_is.specs.Texts.{Progress, ToldBy, TellsBy, TellsItems, TellsTorn, progress, told_by}

-- The blocks of a capture read leniently, and the lines of their flaws after this prefix.
abbrev pub flaws_told : List ℕ → ToldBy State Item
flaws_told prefix = told_by as_is_format block_size (TellsBy is_flawed (block_lines prefix))

-- A run told the flaws of blocks, or of those before the one whose lines could not be written.
abbrev pub Tells : List ℕ → Progress State → Progress State → Bool → ℕ → Result (Option PcapError) Exit → Type 0
Tells prefix old new failed most (Ok fault) = TellsItems (flaws_told prefix) old new failed most fault
Tells prefix old new failed most (Err exit) = TellsTorn (flaws_told prefix) old new exit

-- The same run, which leads to a state of which the new one knows the byte order.
pub record TellsFlaws (prefix : List ℕ) (old new : Progress State) (failed : Bool) (most : ℕ) (result : Result (Option PcapError) Exit) : Type 0 where
  pub reached : State
  pub knows : known_order reached ≡ known_order new.state
  pub told : Tells prefix old (progress reached new.input new.output new.counted) failed most result

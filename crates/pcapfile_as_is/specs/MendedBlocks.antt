-- This file defines how blocks are mended and written.
use Rattle.std.specs.Prelude.{◌≡◌, ℕ, List, Bool, true, false, Option, Result, Ok, Err}
use Rattle.pcap_program.specs.declared.exit.Exit.{Exit}
use Rattle.pcap_program.specs.Lines.{WritesLine}
use Rattle.pcap_written.specs.Raw.{Raw}
use Rattle.pcapfile_mended.specs.declared.mending.Mended.{Mended}
use Rattle.pcapfile_mended.specs.declared.mending.Mended.TheVariants as shown
use Rattle.pcapfile_mended.specs.Mended.{IsMended}
use Rattle.pcapfile_as_is.specs.declared.counted.Told.{Told}
use Rattle.pcapfile_as_is.specs.Texts.{numbered}

-- is_another mended: the block is changed or left out.
abbrev pub is_another : Mended → Bool
is_another shown.Stays = false
is_another _ = true

-- TellsMended: the bytes are those of the mended block. It has a number, and a flaw unless it is unchanged.
abbrev pub TellsMended : Raw → Told → List ℕ → Type 0
TellsMended raw told bytes = (mended : Mended) × IsMended raw mended bytes × (told ≡ numbered (is_another mended))

-- WritesMended: a call writes the bytes of the mended block, and returns how it was mended.
abbrev pub WritesMended : Raw → Option (List ℕ) → Option (List ℕ) → Result Mended Exit → Type 0
WritesMended raw before after (Ok mended) = WritesLine (IsMended raw mended) before after (Ok tt)
WritesMended raw before after (Err exit) = (mended : Mended) × WritesLine (IsMended raw mended) before after (Err exit)

-- Counts of the blocks, and of the options of section headers, that a merge leaves out of a capture (pcapng, section 4).
use Rattle.std.specs.Prelude.{◌+◌, ◌==◌, ℕ, if◌then◌else◌, length}
use Rattle.pcap_blocks.specs.declared.block_type.BlockType.{BlockType}
use Rattle.pcap_blocks.specs.declared.block_type.BlockType.TheVariants as types
use Rattle.pcap_ng.specs.State.{State, opening, within}
use Rattle.pcapfile_run.specs.Passing.{counted}
use Rattle.pcapfile_merge.specs.declared.left_out.LeftOut.{LeftOut}

-- The counts before any block.
abbrev pub nothing : LeftOut
nothing = record { names = 0; statistics = 0; secrets = 0; others = 0; section_options = 0 }

-- How many options the header of the section in force has.
abbrev pub options_at : State → ℕ
options_at opening = 0
options_at (within section interfaces) = length section.options

-- The counts after a section header with this many options.
abbrev pub with_section : ℕ → LeftOut → LeftOut
with_section options left_out = record left_out { section_options = counted (left_out.section_options + options) }

-- The counts without the options of section headers.
abbrev pub without_options : LeftOut → LeftOut
without_options left_out = record left_out { section_options = 0 }

-- The counts after one more block of another type.
abbrev pub with_other : LeftOut → LeftOut
with_other left_out = record left_out { others = counted (left_out.others + 1) }

-- The counts after one more block of secrets.
abbrev pub with_secrets : LeftOut → LeftOut
with_secrets left_out = record left_out { secrets = counted (left_out.secrets + 1) }

-- The counts after one more block of an unnamed type, where 10 is the type of secrets.
abbrev pub with_unknown : ℕ → LeftOut → LeftOut
with_unknown number left_out = if number == 10 then with_secrets left_out else with_other left_out

-- The counts after one more block of this type, where the header of its section has this many options. Of a section header the options
-- are counted. Interfaces and packets aren't counted.
abbrev pub with_block : ℕ → BlockType → LeftOut → LeftOut
with_block options types.SectionHeader left_out = with_section options left_out
with_block options types.InterfaceDescription left_out = left_out
with_block options types.NameResolution left_out = record left_out { names = counted (left_out.names + 1) }
with_block options types.InterfaceStatistics left_out = record left_out { statistics = counted (left_out.statistics + 1) }
with_block options types.EnhancedPacket left_out = left_out
with_block options types.Packet left_out = left_out
with_block options types.SimplePacket left_out = left_out
with_block options (types.Unknown number) left_out = with_unknown number left_out
with_block options _ left_out = with_other left_out

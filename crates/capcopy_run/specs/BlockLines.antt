-- This file defines the lines that the word `blocks` writes.
use Rattle.std.specs.Prelude.{◌≡◌, ◌⊎◌, ⊤, ℕ, List, [], ◌++◌, codes}
use Rattle.std.specs.Fmt.{decimal}
use Rattle.pcap_core.specs.declared.common.Endianness.{Endianness}
use Rattle.pcap_core.specs.Answer.{whole, faulty}
use Rattle.pcap_core.specs.Faults.{Fault}
use Rattle.pcap_blocks.specs.declared.block_type.BlockType.{BlockType}
use Rattle.pcap_blocks.specs.declared.block_type.BlockType.TheVariants as types
use Rattle.pcap_blocks.specs.ParsedBlock.{Body}
use Rattle.pcap_blocks.specs.SectionHeader.{Section, magic_order}
use Rattle.pcap_ng.specs.Blocks.{Item, block_format}
use Rattle.pcap_ng.specs.Bodies.{SaysOfBody}
use Rattle.pcap_ng.specs.Frames.{Framed}
use Rattle.pcap_ng.specs.Opening.{OpeningSays}
use Rattle.pcap_ng.specs.State.{State, opening, within, or_big}
use Rattle.capcopy_run.specs.Listing.{Kind}
use Rattle.capcopy_run.specs.Words.{order_word}

-- The order of a section is the byte order of its numbers, big if its magic has none.
abbrev pub order_of : Section → Endianness
order_of section = or_big (magic_order section.magic)

-- The line of a section gives its byte order and its version.
abbrev pub section_line : Section → List ℕ
section_line section =
    let version = decimal section.major_version ++ (codes "." ++ decimal section.minor_version) in
    codes "section " ++ (order_word (order_of section) ++ (codes " " ++ (version ++ codes "\n")))

-- The heading is the line of the section in force after the first block.
abbrev pub heading_of : State → List ℕ
heading_of opening = []
heading_of (within section interfaces) = section_line section

-- The name of a block type in a line.
abbrev pub kind_name : BlockType → List ℕ
kind_name types.SectionHeader = codes "section"
kind_name types.InterfaceDescription = codes "interface"
kind_name types.Packet = codes "packet"
kind_name types.SimplePacket = codes "simple"
kind_name types.NameResolution = codes "names"
kind_name types.InterfaceStatistics = codes "statistics"
kind_name types.EnhancedPacket = codes "enhanced"
kind_name types.SystemdJournalExport = codes "journal"
kind_name (types.Unknown number) = codes "unknown:" ++ decimal number

-- IsBodyWord block word: `word` is ok if the block's body has a value, and refused if it has a fault.
abbrev pub IsBodyWord : Framed → List ℕ → Type 0
IsBodyWord block word =
    ((word ≡ codes "ok") × ((body : Body) × (rest : List ℕ) × SaysOfBody block (whole body rest)))
    ⊎ ((word ≡ codes "refused") × ((fault : Fault) × SaysOfBody block (faulty fault)))

-- IsBlockLine index block line: the line gives the block's index, its type, the length of the whole block, and the word for its body.
abbrev pub IsBlockLine : ℕ → Framed → List ℕ → Type 0
IsBlockLine index block line =
    (word : List ℕ)
    × IsBodyWord block word
    × (line ≡ decimal index ++ (codes " " ++ (kind_name block.type_ ++ (codes " " ++ (decimal block.initial_len ++ (codes " " ++ (word ++ codes "\n")))))))

-- The line of an item is the line of its block.
abbrev pub IsItemLine : ℕ → Item → List ℕ → Type 0
IsItemLine index item = IsBlockLine index item.block

-- A capture of blocks is listed as one line for the section that its first block is, and one for each later block.
abbrev pub block_lines : Kind State State Item
block_lines = record {
  opens = OpeningSays;
  grows = ⊤;
  heading = heading_of;
  format = λ q. block_format;
  start = λ q. q;
  IsLine = IsItemLine;
}

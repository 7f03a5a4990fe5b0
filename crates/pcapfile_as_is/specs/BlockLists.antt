-- This file defines the lines of packets in blocks, read leniently.
use Rattle.std.specs.Prelude.{◌≡◌, ℕ, List, [], ◌∷◌, ◌++◌, Bool, true, false, Option, None, Some, codes, option_map}
use Rattle.std.specs.List.{flat_map}
use Rattle.std.specs.Fmt.{decimal}
use Rattle.pcap_core.specs.Answer.{number_in}
use Rattle.pcap_core.specs.Faults.{Fault, Invalid, Io, Utf8, Own}
use Rattle.pcap_core.specs.Rules.{number_of}
use Rattle.pcap_blocks.specs.declared.block_type.BlockType.TheVariants as types
use Rattle.pcap_blocks.specs.EnhancedPacket.{Enhanced}
use Rattle.pcap_blocks.specs.InterfaceDescription.{Interface}
use Rattle.pcap_blocks.specs.Packet.{PacketBody}
use Rattle.pcap_blocks.specs.ParsedBlock.{Body, EnhancedBody, OldPacketBody, SimpleBody}
use Rattle.pcap_blocks.specs.SimplePacket.{Simple}
use Rattle.pcap_ng.specs.Frames.{Framed}
use Rattle.pcap_file.specs.Placed.{is_packet}
use Rattle.pcap_tolerant_blocks.specs.EnhancedAsIs.{EnhancedText}
use Rattle.pcap_tolerant_blocks.specs.Flaws.{Said}
use Rattle.pcap_tolerant_blocks.specs.InForce.{known}
use Rattle.pcap_tolerant_blocks.specs.PacketBlockAsIs.{PacketBlockText}
use Rattle.pcap_tolerant_blocks.specs.SimpleAsIs.{SimpleAsIsText}
use Rattle.pcap_tolerant_captures.specs.Blocks.{Item}
use Rattle.pcap_tolerant_captures.specs.State.{State, opening, within}
use Rattle.pcapfile_run.specs.BlockPackets.{InBlock, packet_in}
use Rattle.pcapfile_run.specs.PacketTexts.{IsPacketText}
use Rattle.pcapfile_as_is.specs.declared.counted.Told.{Told}
use Rattle.pcapfile_as_is.specs.Counts.{are_some, is_flawed}
use Rattle.pcapfile_as_is.specs.Texts.{numbered}

-- The mark of a flaw is the number of its rule, or a word if it breaks no rule. A body has no fault of another format.
abbrev pub mark_of : Fault → List ℕ
mark_of (Invalid rule) = codes " !" ++ decimal (number_of rule)
mark_of Io = codes " !short"
mark_of Utf8 = codes " !utf8"
mark_of (Own n) = []

-- The mark of a flaw that was found in a body.
abbrev pub said_mark : Said → List ℕ
said_mark said = mark_of said.fault

-- The end of a line has a mark for each flaw, in order.
abbrev pub ending : List Said → List ℕ
ending flaws = flat_map said_mark flaws ++ codes "\n"

-- The interfaces that are in force.
abbrev pub described : State → List (Option Interface)
described opening = []
described (within section interfaces) = interfaces

-- HoldsAsIs block body flaws: a block that holds a packet has this body, or none if it has no room for the packet, and these flaws.
pub data HoldsAsIs (b : Framed) : Option Body → List Said → Type 0 where
  enhanced : (packet : Option Enhanced) (flaws : List Said) (rest : List ℕ) → b.type_ ≡ types.EnhancedPacket → EnhancedText (number_in b.endianness) packet flaws b.body rest → HoldsAsIs b (option_map EnhancedBody packet) flaws
  obsolete : (packet : Option PacketBody) (flaws : List Said) (rest : List ℕ) → b.type_ ≡ types.Packet → PacketBlockText (number_in b.endianness) packet flaws b.body rest → HoldsAsIs b (option_map OldPacketBody packet) flaws
  simple : (packet : Option Simple) (flaws : List Said) (rest : List ℕ) → b.type_ ≡ types.SimplePacket → SimpleAsIsText (number_in b.endianness) packet flaws b.body rest → HoldsAsIs b (option_map SimpleBody packet) flaws

-- HoldsIf block held: what a block holds in this sense, or none if it holds no packet.
abbrev pub HoldsIf : Framed → Option (Option Body × List Said) → Type 0
HoldsIf b None = is_packet b.type_ ≡ false
HoldsIf b (Some held) = HoldsAsIs b held.0 held.1

-- The interface alone, if it is known.
abbrev pub alone_if : Option Interface → List Interface
alone_if None = []
alone_if (Some interface) = interface ∷ []

-- The packet in a body, given the first interface, if that is known.
abbrev pub packet_as_is : Option Interface → Option Body → Option InBlock
packet_as_is first None = None
packet_as_is first (Some body) = packet_in (alone_if first) body

-- IsMarkedLine: the line of a packet with these flaws under these interfaces, with the word refused if the block has no room for it.
abbrev pub IsMarkedLine : List (Option Interface) → ℕ → Option InBlock → List Said → List ℕ → Type 0
IsMarkedLine interfaces number (Some packet) flaws line = IsPacketText (known packet.interface interfaces) number packet (ending flaws) line
IsMarkedLine interfaces number None flaws line = line ≡ decimal number ++ (codes " refused" ++ ending flaws)

-- The facts about a block without a number.
abbrev pub unnumbered : Bool → Told
unnumbered flawed = record { has_number = false; has_flaw = flawed }

-- IsListedBody: the line and the facts that a list has for a block with this body of a packet, under these interfaces.
abbrev pub IsListedBody : List (Option Interface) → ℕ → Option Body → List Said → Told → List ℕ → Type 0
IsListedBody interfaces number body flaws told line =
    (told ≡ numbered (are_some flaws)) × IsMarkedLine interfaces number (packet_as_is (known 0 interfaces) body) flaws line

-- IsListedIf: the line and the facts that a list has for a block that holds a packet; any other has no number and no line.
abbrev pub IsListedIf : Bool → ℕ → Item → Told → List ℕ → Type 0
IsListedIf true number item told line =
    (body : Option Body) × (flaws : List Said) × HoldsAsIs item.block body flaws × IsListedBody (described item.led.after) number body flaws told line
IsListedIf false number item told line = (told ≡ unnumbered (is_flawed item)) × (line ≡ [])

-- IsListed: the line and the facts that a list has for a block, at any place.
abbrev pub IsListed : ℕ → ℕ → Item → Told → List ℕ → Type 0
IsListed number place item = IsListedIf (is_packet item.block.type_) number item

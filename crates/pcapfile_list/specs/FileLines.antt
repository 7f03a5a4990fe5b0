-- This file defines the lines that the word `list` writes for captures in files.
use Rattle.std.specs.Prelude.{◌≡◌, ◌⊎◌, ⊤, ℕ, List, [], ◌++◌, Bool, true, false, Option, None, Some, codes}
use Rattle.std.specs.List.{slice_get}
use Rattle.std.specs.Fmt.{decimal}
use Rattle.pcap_core.specs.Answer.{whole, faulty}
use Rattle.pcap_core.specs.Faults.{Fault}
use Rattle.pcap_items.specs.Format.{Format}
use Rattle.pcap_blocks.specs.InterfaceDescription.{Interface}
use Rattle.pcap_blocks.specs.ParsedBlock.{Body}
use Rattle.pcap_ng.specs.Blocks.{Item, block_format}
use Rattle.pcap_ng.specs.Bodies.{SaysOfBody}
use Rattle.pcap_ng.specs.Frames.{Framed}
use Rattle.pcap_ng.specs.Opening.{OpeningSays}
use Rattle.pcap_file.specs.Placed.{is_packet}
use Rattle.pcap_ng.specs.State.{interfaces_at}
use Rattle.pcap_ng.specs.State.{State}
use Rattle.pcap_program.specs.declared.exit.Exit.{Exit}
use Rattle.capcopy_run.specs.Listing.{Kind, ListsUntil}
use Rattle.capcopy_run.specs.PacketLines.{packet_lines}
use Rattle.pcapfile_run.specs.declared.format.Format.{Format as CaptureFormat}
use Rattle.pcapfile_run.specs.declared.format.Format.TheVariants.{Pcap, PcapNg}
use Rattle.pcapfile_lines.specs.declared.form.Form.{Form}
use Rattle.pcapfile_run.specs.BlockPackets.{InBlock, packet_in}
use Rattle.pcapfile_run.specs.PacketTexts.{IsPacketText}
use Rattle.pcapfile_list.specs.FormedLines.{IsTextOfBlock, packets_as}
use Rattle.pcapfile_list.specs.Numbered.{Numbered, numbered}

-- is_packet_item item: the block holds a packet.
abbrev pub is_packet_item : Item → Bool
is_packet_item item = is_packet item.block.type_

-- The format of blocks in which those that hold packets are numbered.
unfoldable pub numbered_blocks : Format (State × ℕ) (Numbered Item)
numbered_blocks = numbered block_format is_packet_item

-- IsPacketLine: the line of a packet in a block, given the interfaces of its section; empty if there is no packet.
abbrev pub IsPacketLine : List Interface → ℕ → Option InBlock → List ℕ → Type 0
IsPacketLine interfaces number (Some packet) line = IsPacketText (slice_get interfaces packet.interface) number packet (codes "\n") line
IsPacketLine interfaces number None line = line ≡ []

-- IsBodyLine: the line of the packet in a body.
abbrev pub IsBodyLine : List Interface → ℕ → Body → List ℕ → Type 0
IsBodyLine interfaces number body line = IsPacketLine interfaces number (packet_in interfaces body) line

-- IsStoredLine: the line of the packet in a block, which has the word refused if the body is malformed.
abbrev pub IsStoredLine : List Interface → ℕ → Framed → List ℕ → Type 0
IsStoredLine interfaces number block line =
    ((body : Body) × (rest : List ℕ) × SaysOfBody block (whole body rest) × IsBodyLine interfaces number body line)
    ⊎ ((fault : Fault) × SaysOfBody block (faulty fault) × (line ≡ decimal number ++ codes " refused\n"))

-- IsStoredIn: that line, or the line in this form if there is one.
abbrev pub IsStoredIn : Option Form → List Interface → ℕ → Framed → List ℕ → Type 0
IsStoredIn (Some form) interfaces number block line = IsTextOfBlock form interfaces number block line
IsStoredIn None interfaces number block line = IsStoredLine interfaces number block line

-- IsLineIf: the line of a block, empty if it holds no packet.
abbrev pub IsLineIf : Option Form → Bool → List Interface → ℕ → Framed → List ℕ → Type 0
IsLineIf form true interfaces number block line = IsStoredIn form interfaces number block line
IsLineIf form false interfaces number block line = line ≡ []

-- IsNumberedLine: the line of a numbered block, whatever its index among all blocks.
abbrev pub IsNumberedLine : Option Form → ℕ → Numbered Item → List ℕ → Type 0
IsNumberedLine form index numbered line =
    IsLineIf form (is_packet_item numbered.item) (interfaces_at numbered.item.after) numbered.number numbered.item.block line

-- A PcapNg capture is listed as a line for each block that holds a packet.
abbrev pub stored_lines : Option Form → Kind State (State × ℕ) (Numbered Item)
stored_lines form = record {
  opens = OpeningSays;
  grows = ⊤;
  heading = λ q. [];
  format = λ q. numbered_blocks;
  start = λ q. (q, 0);
  IsLine = IsNumberedLine form;
}

-- The output of a run: what was written before the run, and after it.
pub record Output : Type 0 where
  pub before : Option (List ℕ)
  pub after : Option (List ℕ)

-- The output with this before the run and that after it.
abbrev pub written : Option (List ℕ) → Option (List ℕ) → Output
written before after = record { before = before; after = after }

-- ListsAs: what a run that ended with this exit has read and written of a capture of this format, in this form if there is one.
abbrev pub ListsAs : Option Form → CaptureFormat → ℕ → List ℕ → Option (List ℕ) → Output → Exit → Type 0
ListsAs None Pcap most s now output exit = ListsUntil packet_lines most s now output.before output.after exit
ListsAs (Some form) Pcap most s now output exit = ListsUntil (packets_as form) most s now output.before output.after exit
ListsAs form PcapNg most s now output exit = ListsUntil (stored_lines form) most s now output.before output.after exit

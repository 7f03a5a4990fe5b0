-- This file proves which lines the packets in bodies have.
use Rattle.std.proofs.Common.{◌≡◌, ℕ, List, [], Option, None, Some, subst}
use Rattle.pcap_blocks.specs.InterfaceDescription.{Interface}
use Rattle.pcap_blocks.specs.ParsedBlock.{Body}
use Rattle.pcapfile_run.specs.BlockPackets.{InBlock, packet_in}
use Rattle.pcapfile_list.specs.FileLines.{IsBodyLine, IsPacketLine}

-- A body that is no packet has no line.
pub no_line : (interfaces : List Interface) (number : ℕ) (body : Body) (line : List ℕ) → None ≡ packet_in interfaces body → line ≡ [] → IsBodyLine interfaces number body line
no_line interfaces number body line none is = subst (λ (o : Option InBlock). IsPacketLine interfaces number o line) none is

-- A body that is a packet has its line.
pub some_line : (interfaces : List Interface) (number : ℕ) (body : Body) (line : List ℕ) (packet : InBlock) → Some packet ≡ packet_in interfaces body → IsPacketLine interfaces number (Some packet) line → IsBodyLine interfaces number body line
some_line interfaces number body line packet is told = subst (λ (o : Option InBlock). IsPacketLine interfaces number o line) is told

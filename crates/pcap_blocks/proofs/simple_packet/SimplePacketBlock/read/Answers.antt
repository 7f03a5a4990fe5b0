use Rattle.std.proofs.Common.{arith}
use Rattle.pcap_blocks.specs.SimplePacket.{short}
use Rattle.pcap_blocks.proofs.simple_packet.SimplePacketBlock.read.Goals as goal

pub returns-then-slice-lt4-clause-tells : goal.returns-then-slice-lt4-clause-tells
returns-then-slice-lt4-clause-tells g c = short (omega arith)

use Rattle.std.proofs.Common.{map}
use Rattle.pcap_blocks.specs.InterfaceDescription.{interface_of}
use Rattle.pcapfile_info.proofs.Bodies.{other_sight}
use Rattle.pcapfile_info.proofs.blocks.sight_of_body.Goals as goal

pub returns-in_default : goal.returns-in_default
returns-in_default c = record {
  sight = other_sight c.args.described (map interface_of c.args.interfaces.now) c.args.parsed.now c.in_default.not-EnhancedPacket c.in_default.not-Packet c.in_default.not-SimplePacket;
  within = tt;
}

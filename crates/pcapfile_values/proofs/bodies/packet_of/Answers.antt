use Rattle.std.proofs.Common.{refl}
use Rattle.pcap_blocks.specs.ParsedBlock.{EnhancedBody}
use Rattle.pcapfile_values.proofs.bodies.packet_of.Goals as goal

pub returns-in_ok-enhanced-in-EnhancedPacket : goal.returns-in_ok-enhanced-in-EnhancedPacket
returns-in_ok-enhanced-in-EnhancedPacket c =
    let told = c.in_ok-enhanced-in-EnhancedPacket.ensures in
    (EnhancedBody told.0, told.1, told.2, rw c.in-EnhancedPacket.is (told.0, refl, told.3))

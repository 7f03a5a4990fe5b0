use Rattle.pcap_classic.specs.PacketText.{packet_limit}
use Rattle.pcap_classic.specs.Packets.{format_under}
use Rattle.pcap_classic.proofs.CaptureFormat.{under_lawful}
use Rattle.pcap_parts.proofs.InParts.{in_parts}
use Rattle.pcap_parts.proofs.laws.packets_are_in_parts.Goals as goal

pub returns : goal.returns
returns c header h s rest packets cuts front are = in_parts (format_under packet_limit header) (under_lawful packet_limit header) tt h s rest packets cuts front are

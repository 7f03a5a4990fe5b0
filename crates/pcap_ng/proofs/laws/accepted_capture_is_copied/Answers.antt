use Rattle.pcap_ng.proofs.AcceptedBlocks.{accepted_bytes}
use Rattle.pcap_ng.proofs.laws.accepted_capture_is_copied.Goals as goal

pub returns : goal.returns
returns c = accepted_bytes

use Rattle.pcap_file.proofs.ConvertedWhole.{accepted_converted}
use Rattle.pcap_file.proofs.laws.accepted_capture_is_converted.Goals as goal

pub returns : goal.returns
returns c = accepted_converted

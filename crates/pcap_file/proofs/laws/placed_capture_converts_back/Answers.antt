use Rattle.pcap_file.proofs.RoundTrips.{placed_back}
use Rattle.pcap_file.proofs.laws.placed_capture_converts_back.Goals as goal

pub returns : goal.returns
returns c = placed_back

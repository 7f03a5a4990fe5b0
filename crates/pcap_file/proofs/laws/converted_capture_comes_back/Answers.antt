use Rattle.pcap_file.proofs.PlacedWhole.{come_back}
use Rattle.pcap_file.proofs.laws.converted_capture_comes_back.Goals as goal

pub returns : goal.returns
returns c = come_back

use Rattle.pcap_classic.proofs.ReadCapture.{capture_again}
use Rattle.pcap_file.specs.Placed.{packets_of}
use Rattle.pcap_file.proofs.PlacedAgain.{packets_whole}
use Rattle.pcap_file.proofs.laws.placed_capture_is_read.Goals as goal

pub returns : goal.returns
returns c = λ header items turns fits become. capture_again header (packets_of turns) fits (packets_whole header.datalink items turns become)

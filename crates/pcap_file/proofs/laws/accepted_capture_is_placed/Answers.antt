use Rattle.pcap_file.proofs.PlacedWhole.{placed_each}
use Rattle.pcap_file.proofs.laws.accepted_capture_is_placed.Goals as goal

pub returns : goal.returns
returns c = placed_each

use Rattle.pcap_file.specs.Converted.{converted, little_texts}
use Rattle.pcap_file.proofs.ConvertedAgain.{converted_again}
use Rattle.pcap_file.proofs.RoundTrips.{blocks_become, carried_same, opening_fit}
use Rattle.pcap_file.proofs.laws.converted_capture_converts_back.Goals as goal

pub returns-clause-packets : goal.returns-clause-packets
returns-clause-packets c = λ header packets fit wholes inside. blocks_become header packets (little_texts (converted header packets)) wholes inside (converted_again header packets fit wholes)

pub returns-clause-same : goal.returns-clause-same
returns-clause-same c = carried_same

pub returns-clause-begins : goal.returns-clause-begins
returns-clause-begins c = opening_fit

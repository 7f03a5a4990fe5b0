use Rattle.pcap_filter.proofs.Results.{runs_to_result}
use Rattle.pcap_filter.proofs.laws.programs_end.Goals as goal

pub returns : goal.returns
returns c steps packet original valid = runs_to_result packet original steps valid

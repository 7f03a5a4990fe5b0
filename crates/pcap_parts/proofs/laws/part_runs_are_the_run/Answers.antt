use Rattle.pcap_parts.proofs.PartRuns.{part_runs}
use Rattle.pcap_parts.proofs.laws.part_runs_are_the_run.Goals as goal

pub returns : goal.returns
returns c = part_runs

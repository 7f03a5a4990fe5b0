use Rattle.pcap_parts.proofs.NgPartRuns.{ng_part_runs}
use Rattle.pcap_parts.proofs.laws.ng_part_runs_are_the_run.Goals as goal

pub returns : goal.returns
returns c = ng_part_runs

use Rattle.pcap_tolerant_captures.proofs.StrictRuns.{strict_ends}
use Rattle.pcap_tolerant_captures.proofs.laws.strict_capture_ends_at_the_first_flaw.Goals as goal

pub returns : goal.returns
returns c = strict_ends

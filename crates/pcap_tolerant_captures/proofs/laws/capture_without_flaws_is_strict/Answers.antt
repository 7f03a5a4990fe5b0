use Rattle.pcap_tolerant_captures.proofs.StrictRuns.{sound_front}
use Rattle.pcap_tolerant_captures.proofs.laws.capture_without_flaws_is_strict.Goals as goal

pub returns : goal.returns
returns c = sound_front

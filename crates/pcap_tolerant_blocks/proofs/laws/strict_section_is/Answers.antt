use Rattle.pcap_tolerant_blocks.proofs.StrictBodies.{section_strict, section_refused}
use Rattle.pcap_tolerant_blocks.proofs.laws.strict_section_is.Goals as goal

pub returns : goal.returns
returns c = record { read = section_strict; refused = section_refused }

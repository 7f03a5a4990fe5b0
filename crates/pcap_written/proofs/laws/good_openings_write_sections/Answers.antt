use Rattle.pcap_written.proofs.Going.{good_opening}
use Rattle.pcap_written.proofs.laws.good_openings_write_sections.Goals as goal

pub returns : goal.returns
returns p c = good_opening _

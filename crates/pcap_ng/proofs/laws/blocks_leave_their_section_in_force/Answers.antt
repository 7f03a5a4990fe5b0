use Rattle.pcap_ng.proofs.Sections.{texts_leave}
use Rattle.pcap_ng.proofs.laws.blocks_leave_their_section_in_force.Goals as goal

pub returns : goal.returns
returns c = texts_leave

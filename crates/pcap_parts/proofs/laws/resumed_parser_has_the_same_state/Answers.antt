use Rattle.pcap_parts.proofs.Resumed.{resumed}
use Rattle.pcap_parts.proofs.laws.resumed_parser_has_the_same_state.Goals as goal

pub returns : goal.returns
returns c = resumed

use Rattle.pcap_items.proofs.Formats.{front_one}
use Rattle.pcap_tolerant_captures.specs.Blocks.{as_is_format}
use Rattle.pcap_tolerant_captures.proofs.Format.{as_is_lawful}
use Rattle.pcap_tolerant_captures.proofs.laws.blocks_as_they_stand_have_one_front.Goals as goal

pub returns : goal.returns
returns c = λ q s. front_one as_is_format as_is_lawful q s

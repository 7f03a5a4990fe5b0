use Rattle.pcap_tolerant_captures.proofs.StandAgain.{standing_given}
use Rattle.pcap_tolerant_captures.proofs.laws.blocks_that_stand_are_given.Goals as goal

pub returns : goal.returns
returns c = standing_given

use Rattle.pcap_tolerant_blocks.proofs.OneSound.{sound_one}
use Rattle.pcap_tolerant_blocks.proofs.laws.sound_options_are_one.Goals as goal

pub returns : goal.returns
returns c = sound_one

use Rattle.pcap_classic.proofs.Asked.{invalid_takes_one}
use Rattle.pcap_classic.proofs.laws.invalid_magic_takes_one_byte.Goals as goal

pub returns : goal.returns
returns c = invalid_takes_one

use Rattle.std.proofs.Common.{refl}
use Rattle.pcap_ng.specs.RawBlocks.{framed_raw}
use Rattle.pcap_ng.proofs.RawAgain.{raw_again}
use Rattle.pcap_ng.proofs.laws.written_raw_block_is_read.Goals as goal

pub returns : goal.returns
returns c = λ at behind raw rest tells. (framed_raw raw, raw_again at behind raw.type_ raw.endianness raw.body rest tells, refl)

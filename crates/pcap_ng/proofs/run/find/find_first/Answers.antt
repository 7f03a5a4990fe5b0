use Rattle.pcap_items.proofs.Settling.{found_tells}
use Rattle.pcap_ng.specs.Blocks.{MayGrow}
use Rattle.pcap_ng.specs.Opening.{OpeningSays}
use Rattle.pcap_ng.specs.Parser.{state_of}
use Rattle.pcap_ng.specs.State.{opening}
use Rattle.pcap_ng.proofs.run.find.find_first.Goals as goal

pub returns : goal.returns
returns c = rw c.found_in.ensures (found_tells (MayGrow opening c.args.slice.now) (OpeningSays c.args.slice.now) state_of c.new.result c.new.ensures.tells)

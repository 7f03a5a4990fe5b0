use Rattle.pcap_ng.specs.Ahead.{state_of, text_of}
use Rattle.pcap_walk.proofs.MetBlocks.{block_held}
use Rattle.pcap_walk.proofs.blocks.BlocksAheadWalker.hold_next.Goals as goal

pub returns-clause-holds : goal.returns-clause-holds
returns-clause-holds g c = block_held (state_of c.args.self.now) (state_of c.hold_next.new.self) _ _ (text_of c.hold_next.new.self) _ c.hold_next.result c.hold_next.ensures.pulls c.hold_next.ensures.text

use Rattle.pcap_walk.proofs.MetBlocks.{enhanced_found}
use Rattle.pcap_walk.proofs.blocks.BlocksAheadWalker.front.Goals as goal

pub returns : goal.returns
returns c = enhanced_found _ _ c.order.result c.args.bytes.now c.front_of.result c.order.ensures c.front_of.ensures

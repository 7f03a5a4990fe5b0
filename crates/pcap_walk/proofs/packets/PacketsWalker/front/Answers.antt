use Rattle.pcap_walk.proofs.MetPackets.{under_found}
use Rattle.pcap_walk.proofs.packets.PacketsWalker.front.Goals as goal

pub returns : goal.returns
returns c = under_found c.args.self.now.header.now c.args.self.now.order c.args.self.now.ts_resolution c.args.bytes.now c.front_of.result c.args.self.now.is_valid c.args.self.now.order_is c.args.self.now.resolution_is c.front_of.ensures

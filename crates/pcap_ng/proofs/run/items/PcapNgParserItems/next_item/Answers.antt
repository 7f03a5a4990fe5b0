use Rattle.std.proofs.Common.{refl}
use Rattle.pcap_items.proofs.Items.{tells_item}
use Rattle.pcap_ng.specs.Blocks.{Item, MayGrow, block_format, item_of}
use Rattle.pcap_ng.specs.Frames.{framed_of}
use Rattle.pcap_ng.specs.Parser.{state_of}
use Rattle.pcap_ng.proofs.run.items.PcapNgParserItems.next_item.Goals as goal

pub returns-clause-finds : goal.returns-clause-finds
unfolding block_format
returns-clause-finds c =
    let q = state_of c.args.self.now in
    let next = state_of c.next_block.new.self in
    rw c.found_in.ensures (tells_item block_format (λ (item : Item). item.block) framed_of (item_of next) (λ _. refl) q next (λ _. refl) MayGrow c.args.slice.now c.next_block.result c.next_block.ensures.unchanged c.next_block.ensures.tells)

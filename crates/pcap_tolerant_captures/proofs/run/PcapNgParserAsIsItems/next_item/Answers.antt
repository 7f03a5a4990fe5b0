use Rattle.std.proofs.Common.{refl}
use Rattle.pcap_items.proofs.Items.{tells_item}
use Rattle.pcap_tolerant_captures.specs.Blocks.{MayGrow, as_is_format, item_of}
use Rattle.pcap_tolerant_captures.specs.Run.{seen_in, seen_of}
use Rattle.pcap_tolerant_captures.specs.State.{state_of}
use Rattle.pcap_tolerant_captures.proofs.run.PcapNgParserAsIsItems.next_item.Goals as goal

pub returns-clause-finds : goal.returns-clause-finds
unfolding as_is_format
returns-clause-finds c =
    let q = state_of c.args.self.now in
    let next = state_of c.next_block_as_is.new.self in
    rw c.found_in.ensures (tells_item as_is_format seen_in seen_of (item_of next) (λ _. refl) q next (λ _. refl) MayGrow c.args.slice.now c.next_block_as_is.result c.next_block_as_is.ensures.unchanged c.next_block_as_is.ensures.tells)

use Rattle.pcap_items.specs.Held.{held_bytes}
use Rattle.pcap_tolerant_captures.specs.HeldAsIs.{state_in}
use Rattle.pcap_tolerant_captures.proofs.Copied.{block_held}
use Rattle.pcap_tolerant_captures.proofs.copy.BlocksHolding.hold_next.Goals as goal

pub returns : goal.returns
returns g c =
    rw c.is_some.ensures (block_held (state_in c.args.place.now) (state_in c.hold.new.parser) _ _ (held_bytes c.hold.new.held) _ c.in_ok-block.block c.in_ok-block.ensures.pulls c.in_ok-block.ensures.text)

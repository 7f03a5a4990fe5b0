-- Runs over the blocks of a capture.
use Rattle.std.proofs.Common.{ℕ, List, sym, subst}
use Rattle.pcap_core.specs.Answer.{whole}
use Rattle.pcap_items.specs.Items.{LeadsTo}
use Rattle.pcap_ng.specs.Blocks.{Item, block_format}
use Rattle.pcap_ng.specs.Frames.{Framed}
use Rattle.pcap_ng.specs.Front.{NgFront}
use Rattle.pcap_ng.specs.Opening.{OpeningSays}
use Rattle.pcap_ng.specs.State.{State}

-- If a first block and blocks after it lead to bytes that no block begins, these blocks are the front.
pub run_front : (first now : State) (blocks : List Framed) (s after left : List ℕ) → OpeningSays s (whole first after) → LeadsTo block_format (λ (item : Item). item.block) first now blocks after left
    → ((item : Item) (t : List ℕ) → block_format.says now left (whole item t) → ⊥) → NgFront now blocks s left
unfolding block_format
run_front first now blocks s after left text leads longest = record {
  first = record { block = text.0; after = first };
  items = leads.values;
  front = record { texts = (after, text.1, leads.texts); longest = subst (λ (q : State). (item : Item) (t : List ℕ) → block_format.says q left (whole item t) → ⊥) (sym leads.state_is) longest };
  blocks_are = leads.parts;
  in_force = leads.state_is;
}

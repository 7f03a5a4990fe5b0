-- The front of a PcapNg capture: its first section header and the blocks after it.
use Rattle.std.specs.Prelude.{◌≡◌, ℕ, List, ◌∷◌, map}
use Rattle.pcap_items.specs.Format.{Front, state_after}
use Rattle.pcap_ng.specs.Frames.{Framed}
use Rattle.pcap_ng.specs.State.{State, opening}
use Rattle.pcap_ng.specs.Blocks.{Item, block_format}

-- NgFront q blocks s rest: s is a section header, then the texts of these blocks, then rest, which no block's text begins. The
-- state in force at rest is q.
pub record NgFront (q : State) (blocks : List Framed) (s rest : List ℕ) : Type 0 where
  pub first : Item
  pub items : List Item
  pub front : Front block_format opening (first ∷ items) s rest
  pub blocks_are : map (λ (item : Item). item.block) items ≡ blocks
  pub in_force : state_after block_format opening (first ∷ items) ≡ q

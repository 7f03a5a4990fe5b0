-- The strict reading of a capture whose blocks are also read leniently.
use Rattle.std.specs.Prelude.{◌≡◌, ℕ, List, [], map}
use Rattle.pcap_core.specs.Answer.{faulty}
use Rattle.pcap_core.specs.Faults.{Fault}
use Rattle.pcap_items.specs.Format.{Front, Texts, state_after}
use Rattle.pcap_ng.specs.Blocks as strict_blocks
use Rattle.pcap_ng.specs.Blocks.{block_format}
use Rattle.pcap_ng.specs.State as strict
use Rattle.pcap_tolerant_captures.specs.Blocks.{Item, as_is_format}
use Rattle.pcap_tolerant_captures.specs.State.{opening}
use Rattle.pcap_tolerant_captures.specs.Strict.{as_it_stands}

-- The body of the block has no flaw.
abbrev pub IsSound : Item → Type 0
IsSound item = item.led.flaws ≡ []

-- The strict front of `s` is these blocks, with the same section and interfaces in force after them, followed by `left`.
pub record StrictFrontIs (items : List Item) (s left : List ℕ) : Type 0 where
  pub blocks : List strict_blocks.Item
  pub front : Front block_format strict.opening blocks s left
  pub same : map (λ (b : strict_blocks.Item). b.block) blocks ≡ map (λ (item : Item). item.block) items
  pub in_force : state_after as_is_format opening items ≡ as_it_stands (state_after block_format strict.opening blocks)

-- The strict front of `s` is these blocks, and strict reading refuses what follows them by this fault.
pub record StrictEndsAt (before : List Item) (fault : Fault) (s : List ℕ) : Type 0 where
  pub stop : List ℕ
  pub texts : Texts as_is_format opening before s stop
  pub strictly : StrictFrontIs before s stop
  pub refused : block_format.says (state_after block_format strict.opening strictly.blocks) stop (faulty fault)

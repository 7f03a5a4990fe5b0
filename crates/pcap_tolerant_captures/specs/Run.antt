-- The results of a lenient run over a whole slice of a PcapNg capture.
use Rattle.std.specs.Prelude.{◌≡◌, ◌==◌, ◌+◌, ℕ, List, ◌∷◌, length, map, take, not, position, sum_by, Bool, Option, Some, None}
use Rattle.pcap_items.specs.Format.{Front, state_after}
use Rattle.pcap_items.specs.Run.{IsRest}
use Rattle.pcap_ng.specs.Frames.{Framed, framed_of}
use Rattle.pcap_tolerant_blocks.specs.Flaws.{Said, said_of}
use Rattle.pcap_tolerant_captures.specs.declared.block.BlockAsIs.{BlockAsIs}
use Rattle.pcap_tolerant_captures.specs.declared.run.FlawedAt.{FlawedAt}
use Rattle.pcap_tolerant_captures.specs.declared.run.NgRunAsIs.{NgRunAsIs}
use Rattle.pcap_tolerant_captures.specs.Blocks.{Item, as_is_format}
use Rattle.pcap_tolerant_captures.specs.State.{State, opening, state_of}

-- A block, and the flaws of its body.
pub record Seen : Type 0 where
  pub block : Framed
  pub flaws : List Said

-- The block that the code returned, and the flaws of its body.
abbrev pub seen_of : BlockAsIs → Seen
seen_of x = record { block = framed_of x.block; flaws = map said_of x.flaws.items }

-- The block and flaws of an item, without the section and interfaces in force after it.
abbrev pub seen_in : Item → Seen
seen_in item = record { block = item.block; flaws = item.led.flaws }

-- The body of the block has a flaw.
abbrev pub is_flawed : BlockAsIs → Bool
is_flawed block = not (length block.flaws.items == 0)

-- The number of bytes of the block.
abbrev pub size_of : BlockAsIs → ℕ
size_of block = block.block.initial_len

-- All blocks of a run, including the first.
abbrev pub all_of : NgRunAsIs → List BlockAsIs
all_of run = run.first ∷ run.blocks.items

-- The index of the first flawed block of these, and the number of bytes before it, or None if no block has a flaw.
abbrev pub IsFirstFlawed : List BlockAsIs → Option FlawedAt → Type 0
IsFirstFlawed all None = position is_flawed all ≡ None
IsFirstFlawed all (Some at) = (position is_flawed all ≡ Some at.block) × (at.offset ≡ sum_by size_of (take at.block all))

-- `s` is the texts of these blocks, the first a section header, and `rest`, which no block's text begins. The state in force there is
-- `q`.
pub record NgFrontAsIs (q : State) (blocks : List Seen) (s rest : List ℕ) : Type 0 where
  pub items : List Item
  pub front : Front as_is_format opening items s rest
  pub blocks_are : map seen_in items ≡ blocks
  pub in_force : state_after as_is_format opening items ≡ q

-- The run is the front of `s`: its blocks, the state in force after them, its length, the state of its rest, and the place of the first
-- flaw.
pub record IsRunAsIs (run : NgRunAsIs) (s : List ℕ) : Type 0 where
  pub left : List ℕ
  pub front : NgFrontAsIs (state_of run.parser) (map seen_of (all_of run)) s left
  pub used : run.used + length left ≡ length s
  pub rest : IsRest (as_is_format.says (state_of run.parser)) left run.rest
  pub first_flawed : IsFirstFlawed (all_of run) run.first_flawed

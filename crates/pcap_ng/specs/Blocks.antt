-- Blocks under the section and interfaces in force.
use Rattle.std.specs.Prelude.{◌⊎◌, ℕ, List}
use Rattle.pcap_core.specs.Answer.{Verdict, Says}
use Rattle.pcap_core.specs.Faults.{Fault}
use Rattle.pcap_items.specs.Format.{Format}
use Rattle.pcap_items.specs.Headed.{good, bad}
use Rattle.pcap_ng.specs.declared.pcapng.block.Block.{Block}
use Rattle.pcap_ng.specs.Frames.{Framed, framed_of, FrameText, FrameLacks, FrameFault}
use Rattle.pcap_ng.specs.State.{State, order_at, Means, CanGrow}

-- An item is a block in its frame and the state after it.
pub record Item : Type 0 where
  pub block : Framed
  pub after : State

-- A block of the code that leads to this state, as an item.
abbrev pub item_of : State → Block → Item
item_of after block = record { block = framed_of block; after = after }

-- BlockText q item s rest: s is a block that leads from state q to the item's state, followed by rest.
pub record BlockText (q : State) (item : Item) (s rest : List ℕ) : Type 0 where
  pub frame : FrameText (order_at q) item.block s rest
  pub means : Means q item.block (good item.after)

-- BodyFault q s fault: s begins with a whole frame, and the fault is in its body.
pub record BodyFault (q : State) (s : List ℕ) (fault : Fault) : Type 0 where
  pub block : Framed
  pub rest : List ℕ
  pub frame : FrameText (order_at q) block s rest
  pub means : Means q block (bad fault)

-- The verdict of bytes as a block under a state.
abbrev pub BlockSays : State → List ℕ → Verdict Item → Type 0
BlockSays q s = Says (λ item rest. BlockText q item s rest) (FrameLacks (order_at q) s) (λ fault. FrameFault (order_at q) s fault ⊎ BodyFault q s fault)

-- MayGrow q s: s begins with a whole block whose body is kept, or is read and has something that is kept in a list. Only then
-- does a call need memory.
pub record MayGrow (q : State) (s : List ℕ) : Type 0 where
  pub block : Framed
  pub rest : List ℕ
  pub frame : FrameText (order_at q) block s rest
  pub grows : CanGrow q block

-- The format of blocks, the first of which is a section header.
unfoldable pub block_format : Format State Item
block_format = record { says = BlockSays; goes = λ q item. item.after; head = λ q. 12 }

-- This file proves how blocks are listed with a value kept from the blocks before each.
use Rattle.std.proofs.Common.{ℕ, List, [], Option}
use Rattle.pcap_items.specs.Format.{Format}
use Rattle.pcap_items.specs.Reading.{Takes}
use Rattle.pcap_ng.specs.Blocks.{Item, block_format}
use Rattle.pcap_ng.specs.State.{State}
use Rattle.capcopy_run.specs.OfBlocks.{AreBlocks}

-- If a block was read, its value was read in the format.
pub value_taken : {K S V : Type 0} {f : Format S V} {reached : State → K → S} {value : K → Item → V} {behind : K → Item → K} → AreBlocks f reached value behind → (q : State) (kept : K) (before after : Option (List ℕ)) (item : Item)
    → Takes (block_format.says q) before after item → Takes (f.says (reached q kept)) before after (value kept item)
value_taken blocks q kept before after item took = (took.0, blocks.text q kept took.0 [] item took.1, took.2)

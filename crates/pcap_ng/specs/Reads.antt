-- The result of a run over a stream of blocks.
use Rattle.std.specs.Prelude.{◌≡◌, ℕ, List, map, Option}
use Rattle.pcap_items.specs.Format.{state_after}
use Rattle.pcap_items.specs.Reading.{Takes}
use Rattle.pcap_core.specs.Answer.{whole}
use Rattle.pcap_items.specs.Takes.{TakesParts, ReadsFront}
use Rattle.pcap_ng.specs.declared.run.NgRead.{NgRead}
use Rattle.pcap_ng.specs.Frames.{framed_of}
use Rattle.pcap_ng.specs.State.{State}
use Rattle.pcap_ng.specs.Blocks.{Item, block_format}
use Rattle.pcap_ng.specs.Opening.{OpeningSays}
use Rattle.pcap_ng.specs.Reader.{state_of, stream_of, has_failed}

-- The first block was taken, and then blocks up to a cause to stop.
pub record TakesNg {T : Type 0} (remaining : T → Option (List ℕ)) (known : Option (List ℕ)) (most : ℕ) (read : NgRead T) : Type 0 where
  pub after : Option (List ℕ)
  pub first : State
  pub opened : Takes OpeningSays known after first
  pub blocks : TakesParts block_format (λ (item : Item). item.block) first (state_of read.reader) after
      (remaining (stream_of read.reader)) (has_failed read.reader) most (map framed_of read.blocks.items) read.fault

-- The first block is that of the bytes, and whatever failed, the blocks after it are a beginning of the front's blocks.
pub record ReadsNg {T : Type 0} (bytes : List ℕ) (most : ℕ) (read : NgRead T) : Type 0 where
  pub first : State
  pub rest : List ℕ
  pub items : List Item
  pub opened : OpeningSays bytes (whole first rest)
  pub blocks_are : map (λ (item : Item). item.block) items ≡ map framed_of read.blocks.items
  pub in_force : state_after block_format first items ≡ state_of read.reader
  pub front : ReadsFront block_format first rest most items read.fault (has_failed read.reader)

-- What the call returns that reads a block of a capture in pieces.
use Rattle.std.specs.Prelude.{◌≡◌, ◌⊎◌, ℤ, pos, List, ℕ}
use Rattle.pcap_core.specs.declared.rules.Rule.TheVariants.{SectionMagic}
use Rattle.pcap_core.specs.Answer.{whole}
use Rattle.pcap_ng.specs.Blocks.{Item, BlockSays, MayGrow}
use Rattle.pcap_ng.specs.State.{State}
use Rattle.pcapfile_values.specs.declared.blocks.PcapfileBlock.{PcapfileBlock}
use Rattle.pcapfile_values.specs.Blocks.{ShowsState, ShowsBlock}
use Rattle.pcapfile_values.specs.Refusals.{ShowsRule, TellsRefusalWhere}
use Rattle.pcapfile_c.specs.declared.push.PcapfilePush.{PcapfilePush}
use Rattle.pcapfile_c.specs.Push.{LiesWithin, LiesOutside, held_in}
use Rattle.pcapfile_c.specs.Readers.{BlockReader, block_reader}

-- The block at the front of the bytes under this state. Status 0: the structs show it and the state after it. Another status: the block is
-- refused, and nothing else changed.
abbrev pub TakesFrontBlock : State → BlockReader (List ℕ) PcapfileBlock → BlockReader (List ℕ) PcapfileBlock → ℤ → Type 0
TakesFrontBlock q old new status =
    ((status ≡ pos 0) × (new.error ≡ old.error)
    × (item : Item) × ShowsBlock item.block new.value × ShowsState new.section item.after × BlockSays q old.left (whole item new.left))
    ⊎ ((new.section ≡ old.section) × (new.left ≡ old.left) × (new.value ≡ old.value)
    × TellsRefusalWhere (MayGrow q old.left) (BlockSays q old.left) new.error status)

-- A reader of blocks in pieces.
abbrev pub BlockPush : Type 0
BlockPush = BlockReader PcapfilePush PcapfileBlock

-- A reader of the held bytes of this room.
abbrev pub held_blocks : List ℕ → BlockPush → BlockReader (List ℕ) PcapfileBlock
held_blocks room r = block_reader r.section (held_in r.left room) r.value r.error

-- The held bytes are outside of the room, and nothing changed: status 10.
abbrev pub LeavesBlocks : List ℕ → BlockPush → BlockPush → ℤ → Type 0
LeavesBlocks room old new status =
    (status ≡ pos 10) × (new.error ≡ old.error) × (new.left ≡ old.left) × (new.section ≡ old.section) × (new.value ≡ old.value) × LiesOutside old.left room

-- The room still holds bytes up to the same end, and the header is unchanged.
abbrev pub HoldsRest : PcapfilePush → PcapfilePush → List ℕ → Type 0
HoldsRest before push room = LiesWithin before room × LiesWithin push room × (push.header ≡ before.header) × (push.end ≡ before.end)

-- The block at the front of the held bytes, whose rest stays held.
abbrev pub TakesNextBlock : State → List ℕ → BlockPush → BlockPush → ℤ → Type 0
TakesNextBlock q room old new status =
    (HoldsRest old.left new.left room × TakesFrontBlock q (held_blocks room old) (held_blocks room new) status)
    ⊎ LeavesBlocks room old new status

-- The magic number names no byte order, and nothing else changed; or the held bytes are outside of the room.
abbrev pub RefusesNextBlock : List ℕ → BlockPush → BlockPush → ℤ → Type 0
RefusesNextBlock room old new status =
    (LiesWithin old.left room × (status ≡ pos 3) × ShowsRule SectionMagic new.error × (new.left ≡ old.left) × (new.section ≡ old.section) × (new.value ≡ old.value))
    ⊎ LeavesBlocks room old new status

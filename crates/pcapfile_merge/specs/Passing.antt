-- The results of the steps that take the next packet from blocks.
use Rattle.std.specs.Prelude.{⊤, ◌≡◌, ℕ, List, length, take, drop, true, false, Option, None, Some, Result, Ok, Err}
use Rattle.std.specs.List.{slice_get}
use Rattle.pcap_core.specs.declared.errors.PcapError.{PcapError}
use Rattle.pcap_blocks.specs.InterfaceDescription.{Interface}
use Rattle.pcap_blocks.specs.ParsedBlock.{Body}
use Rattle.pcap_ng.specs.declared.pcapng.block_header.BlockHeader.{BlockHeader}
use Rattle.pcap_ng.specs.Blocks.{Item}
use Rattle.pcap_ng.specs.Frames.{Framed}
use Rattle.pcap_file.specs.Placing.{RefusesNext}
use Rattle.pcap_ng.specs.State.{interfaces_at}
use Rattle.pcapfile_run.specs.BlockPackets.{InBlock}
use Rattle.pcapfile_run.specs.BlockPackets as in_blocks
use Rattle.pcapfile_merge.specs.declared.made.Made.{Made}
use Rattle.pcapfile_merge.specs.declared.packet.Pending.{Pending}
use Rattle.pcapfile_merge.specs.declared.stored.Said.{Said}
use Rattle.pcapfile_merge.specs.Taking.{packet_in}
use Rattle.pcapfile_merge.specs.BufferedBlocks.{lent_by}
use Rattle.pcapfile_merge.specs.Keeping.{IsNumbered, Progress, gives}
use Rattle.pcapfile_merge.specs.TakingBlocks.{EndsBlock, EndsWell, GivesOf, IsTimeBy, IsUnfit, Passes, TakesItem, TakesStored}

-- The output's number of an interface, or none of 32 bits.
abbrev pub TellsNumber : List ℕ → ℕ → Option ℕ → Type 0
TellsNumber numbers own (Some number) = IsNumbered numbers own number
TellsNumber numbers own None = (number : ℕ) → IsNumbered numbers own number → ⊥

-- Blocks were skipped up to one that gives something, with this header, or to the end, or the next block was refused.
abbrev pub PassesTo : Progress → Progress → (BlockHeader → Item) → Result (Option BlockHeader) PcapError → Type 0
PassesTo a b lent (Ok (Some header)) =
    (mid : Progress) × Passes a mid × TakesItem mid b (lent header) × (gives (interfaces_at (lent header).after) (lent header).block ≡ true)
PassesTo a b lent (Ok None) = (mid : Progress) × (passed : Passes a mid) × EndsWell mid b (length passed.items)
PassesTo a b lent (Err e) = (mid : Progress) × Passes a mid × (b.kept ≡ mid.kept) × RefusesNext mid.source b.source e

-- The bytes of the packet with these facts, in the body of its block.
abbrev pub bytes_within : List ℕ → Pending → List ℕ
bytes_within body pending = take pending.len (drop pending.start body)

-- The result for the packet in a block: its facts, where its own block may be made, or why it can't be merged.
abbrev pub TellsPending : List ℕ → List Interface → Framed → Made → Result Pending PcapError → Type 0
TellsPending numbers interfaces block made (Ok pending) = GivesOf numbers interfaces block (Some (packet_in (bytes_within (lent_by made block.body) pending) pending))
TellsPending numbers interfaces block made (Err e) = EndsBlock numbers interfaces block e

-- How many bytes of the body of a block come before those of its packet: the block has a time or has none.
abbrev pub bytes_before : Option ℕ → ℕ
bytes_before (Some units) = 20
bytes_before None = 4

abbrev pub start_of : InBlock → ℕ
start_of packet = bytes_before packet.units

-- The packet about which its block says this, with its bytes.
abbrev pub in_said : Said → List ℕ → InBlock
in_said said bytes = record { interface = said.interface; units = said.units; original_len = said.original_len; bytes = bytes }

-- The facts about a packet in a block with this many options that are left out, given the interfaces of its section and their numbers in
-- the output.
pub record IsSaid (numbers : List ℕ) (interfaces : List Interface) (packet : InBlock) (options : ℕ) (pending : Pending) : Type 0 where
  pub by : Interface
  pub described : slice_get interfaces packet.interface ≡ Some by
  pub number : IsNumbered numbers packet.interface pending.number
  pub time : IsTimeBy by packet.units pending.time pending.units
  pub original_len : pending.original_len ≡ packet.original_len
  pub len : pending.len ≡ length packet.bytes
  pub start : pending.start ≡ start_of packet
  pub unmade : pending.is_made ≡ false
  pub no_interface : pending.is_interface ≡ false
  pub left_out : pending.left_out ≡ options

-- The result for a packet in a block: its facts, or why it can't be merged.
abbrev pub TellsStored : List ℕ → List Interface → InBlock → ℕ → Result Pending PcapError → Type 0
TellsStored numbers interfaces packet options (Ok pending) = IsSaid numbers interfaces packet options pending
TellsStored numbers interfaces packet options (Err e) = IsUnfit numbers interfaces packet e

-- The result for an optional packet; without one, nothing is claimed.
abbrev pub TellsIfPacket : List ℕ → List Interface → Option InBlock → ℕ → Result Pending PcapError → Type 0
TellsIfPacket numbers interfaces (Some packet) options result = TellsStored numbers interfaces packet options result
TellsIfPacket numbers interfaces None options (Ok pending) = ⊥
TellsIfPacket numbers interfaces None options (Err e) = ⊤

-- The result for a body, of whose block this many options are left out.
abbrev pub TellsBody : List ℕ → List Interface → Body → ℕ → Result Pending PcapError → Type 0
TellsBody numbers interfaces body = TellsIfPacket numbers interfaces (in_blocks.packet_in interfaces body)

-- The result of taking a packet from a reader, which then lends this body.
abbrev pub TellsTaken : List ℕ → Progress → Progress → List ℕ → Result (Option Pending) PcapError → Type 0
TellsTaken numbers a b body (Ok next) = TakesStored numbers a b (bytes_within body) next None
TellsTaken numbers a b body (Err e) = TakesStored numbers a b (bytes_within body) None (Some e)

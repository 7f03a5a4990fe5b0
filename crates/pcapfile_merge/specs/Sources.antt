-- The packets that a source gives.
use Rattle.std.specs.Prelude.{◌≡◌, ◌⊎◌, ℕ, List, [], ◌∷◌, ◌++◌, map, filter_map, length, Bool, true, false, Option, None, Some}
use Rattle.std.specs.Option.{IsSomeAnd}
use Rattle.pcap_core.specs.declared.errors.PcapError.{PcapError}
use Rattle.pcap_core.specs.Answer.{Verdict}
use Rattle.pcap_core.specs.Errors.{IsMemory}
use Rattle.pcap_items.specs.Format.{state_after}
use Rattle.pcap_items.specs.Takes.{TakesTexts}
use Rattle.pcap_classic.specs.Packets.{reader_format}
use Rattle.pcap_classic.specs.PacketText.{Captured, packet_limit}
use Rattle.pcapfile_merge.specs.declared.buffered.BufferedPackets.{BufferedPackets}
use Rattle.pcapfile_merge.specs.declared.buffered_blocks.BufferedBlocks.{BufferedBlocks}
use Rattle.pcap_ng.specs.Blocks.{Item, block_format}
use Rattle.pcapfile_merge.specs.declared.packet.Pending.{Pending}
use Rattle.pcapfile_merge.specs.declared.reader.Reader.{Reader}
use Rattle.pcapfile_merge.specs.declared.reader.Reader.TheVariants.{Packets, Blocks}
use Rattle.pcapfile_merge.specs.declared.reader.Taken.{Taken}
use Rattle.pcapfile_merge.specs.declared.source.Source.{Source}
use Rattle.pcapfile_merge.specs.Buffered.{has_failed, header_of, left_of}
use Rattle.pcapfile_merge.specs.BufferedBlocks.{progress_of}
use Rattle.pcapfile_merge.specs.Holding.{TakesNext, held_by, holds_interface, left_out_next}
use Rattle.pcapfile_merge.specs.Keeping.{Progress, with_items}
use Rattle.pcapfile_merge.specs.Packets.{Packet, left_out_with, packet_of}
use Rattle.pcapfile_merge.specs.Taking.{EndsThere}
use Rattle.pcapfile_merge.specs.TakingBlocks.{AllGive, EndsAt, EndsWell, IsGoing}

-- The packet that a source gives next, or none if it has no more.
abbrev pub pending_of : {R : Type 0} → Source R → List Packet
pending_of source = held_by source.reader source.taken.next

-- The output's numbers of the interfaces that a source gave, in order.
abbrev pub numbers_of : {R : Type 0} → Source R → List ℕ
numbers_of source = source.numbers.items

-- The numbers with that of an interface that was held.
abbrev pub numbers_with : Bool → ℕ → List ℕ → List ℕ
numbers_with true number numbers = numbers ++ number ∷ []
numbers_with false number numbers = numbers

-- A source whose interfaces have these numbers took the packet after the one that it held.
abbrev pub AdvancesTo : {R : Type 0} → (R → Option (List ℕ)) → List ℕ → Source R → Source R → Type 0
AdvancesTo remaining numbers old new =
    (new.base ≡ old.base) × (numbers_of new ≡ numbers) × TakesNext remaining old.base numbers old.reader new.reader new.taken
    × (new.left_out ≡ left_out_next new.taken.next old.left_out)

-- There is no memory for the number of the interface that a source held, and the source ends.
pub record LacksMemory {R : Type 0} (old new : Source R) : Type 0 where
  pub interface : holds_interface old.taken.next ≡ true
  pub base : new.base ≡ old.base
  pub numbers : numbers_of new ≡ numbers_of old
  pub reader : new.reader ≡ old.reader
  pub left_out : new.left_out ≡ old.left_out
  pub ended : new.taken.next ≡ None
  pub fault : IsSomeAnd new.taken.fault IsMemory

-- A source took the packet after the one that it held. If it held an interface, that got this number.
abbrev pub Advances : {R : Type 0} → (R → Option (List ℕ)) → ℕ → Source R → Source R → Type 0
Advances remaining number old new = AdvancesTo remaining (numbers_with (holds_interface old.taken.next) number (numbers_of old)) old new ⊎ LacksMemory old new

-- The stream is where one more packet was taken, or where no other follows.
abbrev pub Stands : {V : Type 0} → (List ℕ → Verdict V → Type 0) → Option (List ℕ) → Option (List ℕ) → Bool → Option Pending → Option PcapError → Type 0
Stands IsSaid left now failed (Some pending) fault = (fault ≡ None) × (now ≡ left)
Stands IsSaid left now failed None fault = EndsThere IsSaid left now failed fault

-- From where the reader `from` was, exactly these packets of a classic capture were taken, and then the stream is there.
pub record GavePackets {R : Type 0} (remaining : R → Option (List ℕ)) (base : ℕ) (from reader : BufferedPackets R) (given : List Packet) (taken : Taken) : Type 0 where
  pub same : header_of reader ≡ header_of from
  pub captured : List Captured
  pub given_are : given ≡ map (packet_of base) captured
  pub left : Option (List ℕ)
  pub took : TakesTexts (reader_format packet_limit (header_of from)) tt captured (left_of remaining from) left
  pub stands : Stands ((reader_format packet_limit (header_of from)).says tt) left (left_of remaining reader) (has_failed reader) taken.next taken.fault

-- These packets, interfaces and kept blocks are exactly those of the blocks whose texts were taken, in order. All blocks were counted.
pub record BlocksGave (numbers : List ℕ) (a b : Progress) (given : List Packet) : Type 0 where
  pub items : List Item
  pub packets : List (Option Packet)
  pub took : TakesTexts block_format a.source.state items a.source.left b.source.left
  pub in_force : state_after block_format a.source.state items ≡ b.source.state
  pub goes_on : IsGoing b.source
  pub gives : AllGive numbers a.kept items packets
  pub given_are : given ≡ filter_map (λ packet. packet) packets
  pub counts : b.kept ≡ with_items items a.kept

-- There is no memory for the number of the interface that was given last.
abbrev pub EndsUnnumbered : Progress → Progress → PcapError → Type 0
EndsUnnumbered mid now e = (now ≡ mid) × IsMemory e

-- A reader is after the block that gave the last of these packets, or where the capture ends, after n blocks.
abbrev pub StandsBehind : List ℕ → ℕ → Progress → Progress → Option Pending → Option PcapError → Type 0
StandsBehind numbers n mid now (Some pending) fault = (fault ≡ None) × (now ≡ mid)
StandsBehind numbers n mid now None None = EndsWell mid now n
StandsBehind numbers n mid now None (Some e) = EndsAt numbers mid now e ⊎ EndsUnnumbered mid now e

-- From where the reader `from` was, these packets, interfaces and kept blocks were taken, and then the reader is there.
pub record GaveStored {R : Type 0} (remaining : R → Option (List ℕ)) (numbers : List ℕ) (from reader : BufferedBlocks R) (given : List Packet) (taken : Taken) : Type 0 where
  pub mid : Progress
  pub gave : BlocksGave numbers (progress_of remaining from) mid given
  pub stands : StandsBehind numbers (length gave.items) mid (progress_of remaining reader) taken.next taken.fault

-- A reader gave these packets from where `from` was. If it holds a packet, that is the last of them. In the output, the interface of a
-- classic capture has the number `base`, and those of a PcapNg capture have `numbers`.
abbrev pub GaveBy : {R : Type 0} → (R → Option (List ℕ)) → ℕ → List ℕ → Reader R → Reader R → List Packet → Taken → Type 0
GaveBy remaining base numbers (Packets from) (Packets reader) given taken = GavePackets remaining base from reader given taken
GaveBy remaining base numbers (Blocks from) (Blocks reader) given taken = GaveStored remaining numbers from reader given taken
GaveBy remaining base numbers _ _ given taken = ⊥

-- A source gave these packets of a capture from where `from` was, and holds the next one, if there is one. It counted the options that are
-- left out with them.
abbrev pub Gave : {R : Type 0} → (R → Option (List ℕ)) → Reader R → Source R → List Packet → Type 0
Gave remaining from source gone =
    GaveBy remaining source.base (numbers_of source) from source.reader (gone ++ pending_of source) source.taken
    × (source.left_out ≡ left_out_with (gone ++ pending_of source) 0)

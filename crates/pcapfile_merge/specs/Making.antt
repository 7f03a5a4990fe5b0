-- Blocks that a merge makes for its output.
use Rattle.std.specs.Prelude.{◌≡◌, ◌≤◌, ℕ, List, length, true, false, Option, None, Some, Result, Ok, Err}
use Rattle.pcap_core.specs.declared.common.Endianness.{Endianness}
use Rattle.pcap_core.specs.declared.errors.PcapError.{PcapError}
use Rattle.pcap_blocks.specs.EnhancedPacket.{Enhanced}
use Rattle.pcap_blocks.specs.ParsedBlock.{Body, EnhancedBody}
use Rattle.pcap_file.specs.Converted.{little_text}
use Rattle.pcap_ng.specs.Frames.{Framed}
use Rattle.pcapfile_merge.specs.declared.made.Made.{Made}
use Rattle.pcapfile_merge.specs.declared.packet.Pending.{Pending}
use Rattle.pcapfile_merge.specs.Keeping.{CarriedBy, IsNumbered, IsUnkept, carried_with, first_number, little_of, with_number}
use Rattle.pcapfile_merge.specs.Packets.{Packet}
use Rattle.pcapfile_merge.specs.TakingBlocks.{IsUnkeptUnder, IsUnmade, IsUnwritten, described_as, numbered}

-- The block of this packet was made, and all of its text is lent.
pub record IsMade (p : Packet) (made : Made) (pending : Pending) : Type 0 where
  pub time : pending.time ≡ p.time
  pub is_interface : pending.is_interface ≡ p.is_interface
  pub start : pending.start ≡ 0
  pub len : pending.len ≡ length made.text.items
  pub is_made : pending.is_made ≡ true
  pub is_lent : made.is_lent ≡ true
  pub text : made.text.items ≡ p.text
  pub left_out : pending.left_out ≡ p.left_out

-- The packet that is made of an enhanced packet of a section of this order, with the interface number, the time and the count of `said`.
abbrev pub made_as : Endianness → Pending → Enhanced → Packet
made_as order said enhanced = record { time = said.time; text = little_text (EnhancedBody (numbered order said.number enhanced)); is_interface = false; left_out = said.left_out }

-- MakesText order said enhanced made result: the call made the block, or returned why it did not.
abbrev pub MakesText : Endianness → Pending → Enhanced → Made → Result Pending PcapError → Type 0
MakesText order said enhanced made (Ok pending) = IsMade (made_as order said enhanced) made pending
MakesText order said enhanced made (Err e) = IsUnmade order said.number enhanced e

-- DescribesText body made result: the call made the block of an interface with this body, or returned why it did not.
abbrev pub DescribesText : Body → Made → Result Pending PcapError → Type 0
DescribesText body made (Ok pending) = IsMade (described_as body) made pending
DescribesText body made (Err e) = IsUnwritten body e

-- KeepsText numbers block made result: the call made the block, or returned why it did not.
abbrev pub KeepsText : List ℕ → Framed → Made → Result Pending PcapError → Type 0
KeepsText numbers block made (Ok pending) = (p : Packet) × CarriedBy block.type_ numbers block p × IsMade p made pending
KeepsText numbers block made (Err e) = IsUnkeptUnder numbers block e

-- WritesText body made result: the text of a block with this body is lent, or the call returned why it is not.
abbrev pub WritesText : Body → Made → Result (Unit {0}) PcapError → Type 0
WritesText body made (Ok done) = (made.is_lent ≡ true) × (made.text.items ≡ little_text body) × (length made.text.items ≤ 4294967260)
WritesText body made (Err e) = IsUnwritten body e

-- PutsNumbered numbers block made result: the text of these statistics, with the output's number of their interface, is lent, or the call
-- returned why it is not.
abbrev pub PutsNumbered : List ℕ → Framed → Made → Result (Unit {0}) PcapError → Type 0
PutsNumbered numbers block made (Ok done) =
    (own : ℕ) × (first_number block.body ≡ Some own) × (number : ℕ) × IsNumbered numbers own number × (made.is_lent ≡ true)
    × (made.text.items ≡ (carried_with (with_number number block.body) block).text) × (length made.text.items ≤ 4294967260)
PutsNumbered numbers block made (Err e) = IsUnkeptUnder numbers block e

-- PutsWhole block made result: the text of this block, in little-endian order, is lent, or the call returned why it is not.
abbrev pub PutsWhole : Framed → Made → Result (Unit {0}) PcapError → Type 0
PutsWhole block made (Ok done) = (made.is_lent ≡ true) × (made.text.items ≡ (carried_with (little_of block) block).text) × (length made.text.items ≤ 4294967260)
PutsWhole block made (Err e) = IsUnkept block e

-- PutsText numbers block made result: the text of this block is lent, or the call returned why it is not.
abbrev pub PutsText : List ℕ → Framed → Made → Result (Unit {0}) PcapError → Type 0
PutsText numbers block made (Ok done) =
    (p : Packet) × CarriedBy block.type_ numbers block p × (made.is_lent ≡ true) × (made.text.items ≡ p.text) × (length made.text.items ≤ 4294967260)
PutsText numbers block made (Err e) = IsUnkeptUnder numbers block e

-- The body of statistics has the number of an interface, and this is that interface's number in the output; or it has none.
abbrev pub NumbersBody : List ℕ → List ℕ → Option ℕ → Type 0
NumbersBody numbers body (Some number) = (own : ℕ) × (first_number body ≡ Some own) × IsNumbered numbers own number
NumbersBody numbers body None = (own number : ℕ) → first_number body ≡ Some own → IsNumbered numbers own number → ⊥

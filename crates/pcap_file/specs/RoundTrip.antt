-- Conversions of whole PcapNg captures, and conversions of captures to the other format and back.
use Rattle.std.specs.Prelude.{◌≡◌, ◌<◌, ◌^◌, ◌++◌, ℕ, List, [], ◌∷◌, length, map, true, false, None, Some, IfSome, ⊤}
use Rattle.std.specs.List.{AllZip, flat_map}
use Rattle.std.specs.Io.KnownBytes.{Appends}
use Rattle.pcap_core.specs.declared.link.DataLink.{DataLink}
use Rattle.pcap_core.specs.Answer.{whole}
use Rattle.pcap_core.specs.Errors.{IsMemory}
use Rattle.pcap_items.specs.Format.{Front}
use Rattle.pcap_classic.specs.declared.pcap.header.PcapHeader.{PcapHeader}
use Rattle.pcap_classic.specs.Magic.{is_magic, resolution_of}
use Rattle.pcap_classic.specs.PacketText.{Captured}
use Rattle.pcap_classic.specs.Written.{cut, written_under}
use Rattle.pcap_file.specs.declared.run.placing.IfUnplaced.{IfUnplaced}
use Rattle.pcap_file.specs.declared.run.placing.IfUnplaced.TheVariants.{Refuse}
use Rattle.pcap_file.specs.declared.run.placing.NgConverted.{NgConverted}
use Rattle.pcap_ng.specs.Blocks.{Item, block_format}
use Rattle.pcap_ng.specs.Opening.{OpeningSays}
use Rattle.pcap_file.specs.Placed.{Becomes, Turn, carried, packets_of, reason_of_turn, reasons_of}
use Rattle.pcap_file.specs.Placing.{Sink, Source}
use Rattle.pcap_ng.specs.State.{State, opening}

-- The seconds of a packet, plus the whole seconds among its nanoseconds, fit into 32 bits.
abbrev pub HasSecondsInside : Captured → Type 0
HasSecondsInside packet = (carried packet).header.ts_sec < 2 ^ 32

-- BlocksBecome: the bytes are a PcapNg capture with nothing behind its blocks. In a classic capture of this link type, these blocks
-- become exactly these packets, in order, and each packet has a place there.
pub record BlocksBecome (link : DataLink) (packets : List Captured) (bytes : List ℕ) : Type 0 where
  pub items : List Item
  pub turns : List Turn
  pub front : Front block_format opening items bytes []
  pub become : AllZip (Becomes link) items turns
  pub packets_are : packets_of turns ≡ packets
  pub all_have_a_place : reasons_of turns ≡ []

-- The packets of blocks, as they are read in a classic capture with this header.
abbrev pub packets_read : PcapHeader → List Turn → List Captured
packets_read header turns = map (cut (resolution_of header.magic_number)) (packets_of turns)

-- AreReady: the reader has refused nothing before, and the writer accepts packets: no write failed, and its header has one of the
-- four magic numbers.
pub record AreReady (header : PcapHeader) (a : Source) (c : Sink) : Type 0 where
  pub goes_on : a.done ≡ false
  pub no_write_failed : c.failed ≡ false
  pub valid : is_magic header.magic_number ≡ true

-- CanPlace: what is left of the reader's stream is whole blocks that become these turns; each packet has a place or may be left out.
pub record CanPlace (header : PcapHeader) (choice : IfUnplaced) (a : Source) (turns : List Turn) : Type 0 where
  pub bytes : List ℕ
  pub items : List Item
  pub left : a.left ≡ Some bytes
  pub front : Front block_format a.state items bytes []
  pub become : AllZip (Becomes header.datalink) items turns
  pub allowed : choice ≡ Refuse → reasons_of turns ≡ []

-- NothingFailed: no read or write failed, and the conversion did not run out of memory.
pub record NothingFailed (b : Source) (d : Sink) (converted : NgConverted) : Type 0 where
  pub no_read_failed : b.failed ≡ false
  pub no_write_failed : d.failed ≡ false
  pub memory : IfSome converted.fault (λ e. IsMemory e → ⊥)

-- PlacesEach: all blocks became these turns; exactly the packets with a place were written, the others left out, nothing refused.
pub record PlacesEach (header : PcapHeader) (turns : List Turn) (c d : Sink) (converted : NgConverted) : Type 0 where
  pub fine : converted.fault ≡ None
  pub blocks : converted.blocks ≡ length turns
  pub packets : converted.packets ≡ length (packets_of turns)
  pub left_out : converted.left_out ≡ length (reasons_of turns)
  pub out : Appends c.out d.out (flat_map (written_under header) (packets_of turns))

-- PlacesRow: blocks at the front of these bytes become these turns, and each packet has a place or may be left out.
pub record PlacesRow (header : PcapHeader) (choice : IfUnplaced) (q : State) (bytes : List ℕ) (turns : List Turn) : Type 0 where
  pub items : List Item
  pub others : List Item
  pub rest : List ℕ
  pub front : Front block_format q (items ++ others) bytes rest
  pub become : AllZip (Becomes header.datalink) items turns
  pub allowed : choice ≡ Refuse → reasons_of turns ≡ []

-- GoesNoFurther: the first of these blocks, if any, becomes nothing, or a packet without a place that may not be left out.
abbrev pub GoesNoFurther : PcapHeader → IfUnplaced → List Item → Type 0
GoesNoFurther header choice [] = ⊤
GoesNoFurther header choice (item ∷ items) = (turn : Turn) → Becomes header.datalink item turn → (choice ≡ Refuse → reason_of_turn turn ≡ []) → ⊥

-- BeginsPlaced: the output is a beginning of the packets that blocks at the front of these bytes become.
pub record BeginsPlaced (header : PcapHeader) (choice : IfUnplaced) (q : State) (bytes gone : List ℕ) : Type 0 where
  pub turns : List Turn
  pub row : PlacesRow header choice q bytes turns
  pub more : List ℕ
  pub split : flat_map (written_under header) (packets_of turns) ≡ gone ++ more

-- IsOpened: the reader is behind the first block of these bytes.
pub record IsOpened (bytes : List ℕ) (a : Source) : Type 0 where
  pub after : List ℕ
  pub first : OpeningSays bytes (whole a.state after)
  pub left : a.left ≡ Some after

-- ComeBack: exactly these packets were written, none was left out, and nothing was refused.
pub record ComeBack (header : PcapHeader) (packets : List Captured) (c d : Sink) (converted : NgConverted) : Type 0 where
  pub fine : converted.fault ≡ None
  pub count : converted.packets ≡ length packets
  pub none_left_out : converted.left_out ≡ 0
  pub out : Appends c.out d.out (flat_map (written_under header) packets)

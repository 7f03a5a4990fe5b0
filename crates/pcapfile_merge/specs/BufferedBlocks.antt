-- Blocks of a PcapNg capture that a reader lends from its buffer.
use Rattle.std.specs.Prelude.{◌≡◌, if◌then◌else◌, ℕ, List, [], take, Bool, false, Option, None, Some}
use Rattle.std.specs.Io.Buffered.{reader_buffer}
use Rattle.std.specs.declared.io.buffered.BufReader.{BufReader}
use Rattle.pcap_core.specs.declared.common.Endianness.{Endianness}
use Rattle.pcap_core.specs.Answer.{number_in}
use Rattle.pcap_blocks.specs.EnhancedPacket.{Enhanced, EnhancedText}
use Rattle.pcap_blocks.specs.InterfaceDescription.{Interface}
use Rattle.pcap_ng.specs.declared.pcapng.enhanced.EnhancedNumbers.{EnhancedNumbers}
use Rattle.pcap_ng.specs.declared.pcapng.reader.PcapNgReader.{PcapNgReader}
use Rattle.pcap_ng.specs.Enhanced.{EnhancedFrame, Tells}
use Rattle.pcap_ng.specs.Lent.{body_in}
use Rattle.pcap_file.specs.Placing.{Source}
use Rattle.pcap_ng.specs.Reader as readers
use Rattle.pcap_ng.specs.State.{order_at}
use Rattle.pcapfile_merge.specs.declared.buffered_blocks.BufferedBlocks.{BufferedBlocks}
use Rattle.pcapfile_merge.specs.declared.kept.Kept.{Kept}
use Rattle.pcapfile_merge.specs.declared.left_out.LeftOut.{LeftOut}
use Rattle.pcapfile_merge.specs.declared.made.Made.{Made}
use Rattle.pcapfile_merge.specs.Buffered.{left_behind, lent_of}
use Rattle.pcapfile_merge.specs.Keeping.{Progress, progress_with}

-- The text that is lent: from the reader, or the first n bytes of its buffer.
abbrev pub text_in : {R A : Type 0} → Option ℕ → PcapNgReader (BufReader R A) → List ℕ
text_in None reader = readers.text_of reader
text_in (Some n) reader = take n (reader_buffer (readers.stream_of reader))

-- The reader as a source: its state, what is left after the lent block, whether a read failed, and whether it refused something.
abbrev pub source_at : {R A : Type 0} → (R → Option (List ℕ)) → Option ℕ → PcapNgReader (BufReader R A) → Source
source_at remaining shown reader = record {
  state = readers.state_of reader;
  left = left_behind remaining (lent_of shown) (readers.stream_of reader);
  failed = readers.has_failed reader;
  done = readers.is_done reader;
}

-- How far the reader is, with what it counted.
abbrev pub progress_at : {R A : Type 0} → (R → Option (List ℕ)) → Option ℕ → PcapNgReader (BufReader R A) → Kept → Progress
progress_at remaining shown reader kept = progress_with kept (source_at remaining shown reader)

-- The text of a block that was made, or else this body.
abbrev pub lent_by : Made → List ℕ → List ℕ
lent_by made body = if made.is_lent then made.text.items else body

-- PlainText e packet s rest: s is the block of an enhanced packet without options, with these numbers, and then `rest`.
pub record PlainText (e : Endianness) (packet : EnhancedNumbers) (s rest : List ℕ) : Type 0 where
  pub body : List ℕ
  pub frame : EnhancedFrame e body s rest
  pub enhanced : Enhanced
  pub after : List ℕ
  pub text : EnhancedText (number_in e) enhanced body after
  pub tells : Tells enhanced packet
  pub plain : enhanced.packet.options ≡ []

module _ {R : Type 0} where
  -- The body of the lent block, or the text of the block that was made.
  abbrev pub body_of : BufferedBlocks R → List ℕ
  body_of blocks = lent_by blocks.made (body_in (text_in blocks.shown blocks.reader))

  -- The interfaces of the current section.
  abbrev pub interfaces_of : BufferedBlocks R → List Interface
  interfaces_of blocks = readers.interfaces_in_force blocks.reader

  -- The counts of the blocks that were left out so far.
  abbrev pub left_out_of : BufferedBlocks R → LeftOut
  left_out_of blocks = blocks.kept.left_out

  -- Whether the reader has refused something.
  abbrev pub is_done : BufferedBlocks R → Bool
  is_done blocks = readers.is_done blocks.reader

  -- The buffered blocks as a source of blocks.
  abbrev pub source_of : (R → Option (List ℕ)) → BufferedBlocks R → Source
  source_of remaining blocks = source_at remaining blocks.shown blocks.reader

  -- How far the buffered blocks are.
  abbrev pub progress_of : (R → Option (List ℕ)) → BufferedBlocks R → Progress
  progress_of remaining blocks = progress_at remaining blocks.shown blocks.reader blocks.kept

  -- StaysAt remaining old new: the reader removed the lent block from the buffer and took no other.
  abbrev pub StaysAt : (R → Option (List ℕ)) → BufferedBlocks R → BufferedBlocks R → Type 0
  StaysAt remaining old new = (new.shown ≡ None) × (progress_of remaining new ≡ progress_of remaining old) × (new.made.is_lent ≡ false)

  -- LiesThere blocks packet n: the first n bytes of the buffer are the block of an enhanced packet without options, with these numbers.
  abbrev pub LiesThere : BufferedBlocks R → EnhancedNumbers → ℕ → Type 0
  LiesThere blocks packet n = PlainText (order_at (readers.state_of blocks.reader)) packet (take n (reader_buffer (readers.stream_of blocks.reader))) []

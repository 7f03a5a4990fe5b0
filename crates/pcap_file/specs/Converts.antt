-- The effects of a conversion from classic to PcapNg on its reader and its writer.
use Rattle.std.specs.Prelude.{◌≡◌, ◌⊎◌, ℕ, List, Any, All, true, false, Option, Some, Result, Ok, Err}
use Rattle.std.specs.Option.{IsSomeAnd}
use Rattle.std.specs.Io.KnownBytes.{Appends, Keeps}
use Rattle.pcap_core.specs.declared.common.Endianness.TheVariants.{Little}
use Rattle.pcap_core.specs.declared.errors.PcapError.{PcapError}
use Rattle.pcap_core.specs.declared.errors.PcapError.TheVariants as errors
use Rattle.pcap_items.specs.declared.stream.copying.Tally.{Tally}
use Rattle.pcap_items.specs.Copying.{NothingCopied}
use Rattle.pcap_core.specs.Errors.{IsIo}
use Rattle.pcap_items.specs.Reading.{Takes}
use Rattle.pcap_items.specs.Writing.{AppendsPart}
use Rattle.pcap_classic.specs.declared.pcap.header.PcapHeader.{PcapHeader}
use Rattle.pcap_classic.specs.declared.run.copy.Copied.{Copied}
use Rattle.pcap_classic.specs.declared.run.copy.PacketsAhead.{PacketsAhead}
use Rattle.pcap_classic.specs.declared.run.copy.Under.TheVariants.{Same}
use Rattle.pcap_classic.specs.Copies.{CopiesBehind, RefusesHeader, copied_of}
use Rattle.pcap_classic.specs.HeaderText.{HeaderSays}
use Rattle.pcap_written.specs.declared.unwritable.Unwritable.{Unwritable}
use Rattle.pcap_blocks.specs.ParsedBlock.{Body}
use Rattle.pcap_written.specs.Flaws.{flaw_message}
use Rattle.pcap_written.specs.Writing.{IsFitIn, FlawIn}
use Rattle.pcap_file.specs.declared.run.converting.PacketBlocks.{PacketBlocks}
use Rattle.pcap_file.specs.Converted.{converted_text, little_texts, opening_blocks}

-- RefusesBlocks: the blocks before the packets were not written, because memory ran out or one of them has a flaw.
abbrev pub RefusesBlocks : List Body → PcapError → Type 0
RefusesBlocks blocks (errors.OutOfMemory e) = Unit {0}
RefusesBlocks blocks (errors.InvalidField message) = (flaw : Unwritable) × (message.now ≡ flaw_message flaw) × Any (λ block. FlawIn Little block flaw) blocks
RefusesBlocks blocks _ = ⊥

-- MakesText: the result is the text of these blocks, which all can be written, or the reason why there is no text.
abbrev pub MakesText : {X : Type 0} → List Body → (X → List ℕ) → Result X PcapError → Type 0
MakesText blocks bytes_of (Ok text) = (bytes_of text ≡ little_texts blocks) × All (IsFitIn Little) blocks
MakesText blocks bytes_of (Err e) = RefusesBlocks blocks e

-- RefusesOpening: the header was taken, but the blocks before the packets have no text, so nothing was written.
pub record RefusesOpening (before now out_before out_now : Option (List ℕ)) (copied : Copied) : Type 0 where
  pub header : PcapHeader
  pub read : Takes HeaderSays before now header
  pub refused : IsSomeAnd copied.fault (RefusesBlocks (opening_blocks header))
  pub none : copied.packets ≡ 0
  pub no_read_failed : copied.read_failed ≡ false
  pub no_write_failed : copied.write_failed ≡ false
  pub out : Keeps out_before out_now

-- TearsOpening: a write failed in the blocks before the packets.
pub record TearsOpening (before now out_before out_now : Option (List ℕ)) (copied : Copied) : Type 0 where
  pub header : PcapHeader
  pub read : Takes HeaderSays before now header
  pub refused : IsSomeAnd copied.fault IsIo
  pub none : copied.packets ≡ 0
  pub no_read_failed : copied.read_failed ≡ false
  pub write_failed : copied.write_failed ≡ true
  pub out : AppendsPart out_before out_now (little_texts (opening_blocks header))

-- OpensConversion: the header was taken, and the blocks before the packets were written; each is read back as it was.
pub record OpensConversion (before now out_before out_now : Option (List ℕ)) (header : PcapHeader) : Type 0 where
  pub read : Takes HeaderSays before now header
  pub fit : All (IsFitIn Little) (opening_blocks header)
  pub out : Appends out_before out_now (little_texts (opening_blocks header))

-- ConvertsPackets: the header was taken, its blocks were written, and then packets were converted.
pub record ConvertsPackets (before now out_before out_now : Option (List ℕ)) (most : ℕ) (copied : Copied) : Type 0 where
  pub header : PcapHeader
  pub behind : Option (List ℕ)
  pub out_behind : Option (List ℕ)
  pub opened : OpensConversion before behind out_before out_behind header
  pub packets : CopiesBehind converted_text header behind now out_behind out_now most copied

-- EndsBefore: the conversion ended before it reached the packets.
abbrev pub EndsBefore : Option (List ℕ) → Option (List ℕ) → Option (List ℕ) → Option (List ℕ) → Copied → Type 0
EndsBefore before now out_before out_now copied =
    RefusesHeader Same before now out_before out_now copied
    ⊎ RefusesOpening before now out_before out_now copied
    ⊎ TearsOpening before now out_before out_now copied

-- ConvertRun: in one conversion, the header or the blocks before the packets are refused, or a write fails in these blocks, or
-- packets are converted.
abbrev pub ConvertRun : Option (List ℕ) → Option (List ℕ) → Option (List ℕ) → Option (List ℕ) → ℕ → Copied → Type 0
ConvertRun before now out_before out_now most copied =
    EndsBefore before now out_before out_now copied ⊎ ConvertsPackets before now out_before out_now most copied

-- BeginsConversion: the blocks before the packets were written and packets are ahead, or the conversion ended there with an error.
abbrev pub BeginsConversion : Option (List ℕ) → Option (List ℕ) → Option (List ℕ) → Option (List ℕ) → Tally → Result (PacketsAhead PacketBlocks) PcapError → Type 0
BeginsConversion before now out_before out_now tally (Ok ahead) = OpensConversion before now out_before out_now ahead.header × NothingCopied tally
BeginsConversion before now out_before out_now tally (Err e) = EndsBefore before now out_before out_now (copied_of tally (Some e))

-- The bytes that a lenient copy of packets takes from a reader and writes to a writer.
use Rattle.std.specs.Prelude.{◌≡◌, ◌⊎◌, ℕ, List, [], Option, Some, Result, Ok, Err}
use Rattle.std.specs.Io.KnownBytes.{Consumes, Appends}
use Rattle.pcap_core.specs.declared.errors.PcapError.{PcapError}
use Rattle.pcap_items.specs.declared.stream.copying.Tally.{Tally}
use Rattle.pcap_items.specs.AsTheyCame.{as_they_came}
use Rattle.pcap_items.specs.Copying.{NothingCopied, EndsTorn, CopiesBehind}
use Rattle.pcap_classic.specs.declared.pcap.header.PcapHeader.{PcapHeader}
use Rattle.pcap_classic.specs.declared.pcap.parser.PcapParser.{PcapParser}
use Rattle.pcap_classic.specs.declared.run.copy.Copied.{Copied}
use Rattle.pcap_classic.specs.declared.run.copy.Under.TheVariants.{Same}
use Rattle.pcap_classic.specs.Copies.{RefusesHeader, copied_of}
use Rattle.pcap_classic.specs.HeaderText.{HeaderText, HeaderSays}
use Rattle.pcap_classic.specs.Parser.{header_of}
use Rattle.pcap_tolerant.specs.Run.{as_is_under}

-- No packet was copied: the header was refused and nothing was written, or it was taken and a write failed in its bytes.
abbrev pub FailsHeader : Option (List ℕ) → Option (List ℕ) → Option (List ℕ) → Option (List ℕ) → Copied → Type 0
FailsHeader before now out out_now copied =
    (copied.packets ≡ 0)
    × (RefusesHeader Same before now out out_now copied ⊎ EndsTorn as_they_came HeaderSays before now out out_now copied.fault copied.read_failed copied.write_failed)

-- Exactly the header's bytes were taken, and exactly they were written.
pub record CopiesHeader (header : PcapHeader) (before now out out_now : Option (List ℕ)) : Type 0 where
  pub bytes : List ℕ
  pub text : HeaderText header bytes []
  pub took : Consumes before now bytes
  pub went : Appends out out_now bytes

-- The header was copied and the parser is that of its packets, or the header was not copied.
abbrev pub BeginsAsIs : Option (List ℕ) → Option (List ℕ) → Option (List ℕ) → Option (List ℕ) → Tally → Result PcapParser PcapError → Type 0
BeginsAsIs before now out out_now tally (Ok parser) = NothingCopied tally × CopiesHeader (header_of parser) before now out out_now
BeginsAsIs before now out out_now tally (Err e) = FailsHeader before now out out_now (copied_of tally (Some e))

-- The header's bytes were written, and then the bytes of packets read leniently, until the copy ended.
pub record CopiesAsIs (limit : ℕ) (before now out out_now : Option (List ℕ)) (most : ℕ) (copied : Copied) : Type 0 where
  pub header : PcapHeader
  pub behind : Option (List ℕ)
  pub out_behind : Option (List ℕ)
  pub opened : CopiesHeader header before behind out out_behind
  pub packets : CopiesBehind (as_is_under limit header) as_they_came tt behind now out_behind out_now most copied.packets copied.fault copied.read_failed copied.write_failed

-- One lenient copy: the header was refused or cut off, or packets were copied.
abbrev pub CopyRunAsIs : ℕ → Option (List ℕ) → Option (List ℕ) → Option (List ℕ) → Option (List ℕ) → ℕ → Copied → Type 0
CopyRunAsIs limit before now out out_now most copied = FailsHeader before now out out_now copied ⊎ CopiesAsIs limit before now out out_now most copied

-- The bytes that a lenient copy of blocks takes from a reader and writes to a writer.
use Rattle.std.specs.Prelude.{◌≡◌, ℕ, List, Option}
use Rattle.pcap_core.specs.declared.errors.PcapError.{PcapError}
use Rattle.pcap_items.specs.declared.stream.copying.Tally.{Tally}
use Rattle.pcap_items.specs.AsTheyCame.{as_they_came}
use Rattle.pcap_items.specs.Copying.{CopiesBehind}
use Rattle.pcap_tolerant_captures.specs.declared.copy.NgCopiedAsIs.{NgCopiedAsIs}
use Rattle.pcap_tolerant_captures.specs.Blocks.{Item, as_is_format}
use Rattle.pcap_tolerant_captures.specs.State.{opening, leaves_all, role_of}

-- The block is neither a section header nor an interface description: the section and interfaces in force stay the same.
abbrev pub LeavesInForce : Item → Type 0
LeavesInForce item = role_of item.block.type_ ≡ leaves_all

-- The result of a copy that has this tally and ended with this fault, or with none.
abbrev pub copied_of : Tally → Option PcapError → NgCopiedAsIs
copied_of tally fault = record { blocks = tally.items; fault = fault; read_failed = tally.read_failed; write_failed = tally.write_failed }

-- The bytes of blocks read leniently, the first of them a section header, were written unchanged until the copy ended.
abbrev pub CopiesAsIs : Option (List ℕ) → Option (List ℕ) → Option (List ℕ) → Option (List ℕ) → ℕ → NgCopiedAsIs → Type 0
CopiesAsIs before now out out_now most copied =
    CopiesBehind as_is_format as_they_came opening before now out out_now most copied.blocks copied.fault copied.read_failed copied.write_failed

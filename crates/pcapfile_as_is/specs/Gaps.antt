-- This file defines the lines for bytes of a capture that are left out.
use Rattle.std.specs.Prelude.{ℕ, List, [], ◌++◌, ◌-◌, ◌==◌, codes, Option, None, Some, if◌then◌else◌}
use Rattle.std.specs.Fmt.{decimal}
use Rattle.pcap_core.specs.declared.rules.Rule.{Rule}
use Rattle.pcap_core.specs.Faults.{rule_message}
use Rattle.pcap_core.specs.Rules.{number_of}
use Rattle.pcap_damaged.specs.declared.scrap.LeftOut.{LeftOut}
use Rattle.pcap_damaged.specs.declared.scrap.Scrap.{Scrap}
use Rattle.pcap_damaged.specs.declared.scrap.Scrap.TheVariants.{NoPackets, NoBlocks, PacketFront, BlockFront, OtherHeader, OtherLink, Undescribed}
use Rattle.pcapfile_as_is.specs.declared.gaps.Gap.{Gap}
use Rattle.pcapfile_as_is.specs.declared.gaps.Position.{Position}

-- The words for the kind of such bytes.
abbrev pub scrap_text : Scrap → List ℕ
scrap_text NoPackets = codes "no packets"
scrap_text NoBlocks = codes "no blocks"
scrap_text PacketFront = codes "of a packet that is cut short"
scrap_text BlockFront = codes "of a block that is cut short"
scrap_text OtherHeader = codes "the header of another capture"
scrap_text OtherLink = codes "packets of another link type"
scrap_text Undescribed = codes "blocks of an interface that is not described"

-- The text of a gap has its number of bytes, their offset and kind, and that they are left out.
abbrev pub gap_text : Gap → List ℕ
gap_text gap = decimal gap.bytes ++ (codes " bytes at byte " ++ (decimal gap.place ++ (codes " are " ++ (scrap_text gap.scrap ++ codes ", and are left out"))))

-- The text with the rule that the bytes break, if any.
abbrev pub reason_text : Option Rule → List ℕ
reason_text None = []
reason_text (Some rule) = codes " by rule " ++ (decimal (number_of rule) ++ (codes ": " ++ rule_message rule))

-- The line of a gap.
abbrev pub gap_line : List ℕ → Gap → List ℕ
gap_line prefix gap = prefix ++ (gap_text gap ++ (reason_text gap.rule ++ codes "\n"))

-- A gap of this many bytes at a place.
abbrev pub gap_at : ℕ → ℕ → LeftOut → Gap
gap_at place bytes left = record { place = place; bytes = bytes; scrap = left.scrap; rule = left.rule }

-- The gap after a place, if more bytes are left out than before.
abbrev pub gap_behind : Position → LeftOut → Option Gap
gap_behind place left = if left.bytes - place.left_out == 0 then None else Some (gap_at place.counted.bytes (left.bytes - place.left_out) left)

-- The information on a capture.
use Rattle.std.specs.Prelude.{⊤, ◌≡◌, ◌<◌, ◌⊎◌, ℕ, List, [], length, Option, None, Some, String}
use Rattle.std.specs.Global.{Global}
use Rattle.pcap_core.specs.Answer.{whole}
use Rattle.pcap_items.specs.Format.{Format}
use Rattle.pcap_classic.specs.declared.pcap.header.PcapHeader.{PcapHeader}
use Rattle.pcap_classic.specs.HeaderText.{HeaderText, HeaderSays}
use Rattle.pcap_classic.specs.Packets.{format_under}
use Rattle.pcap_classic.specs.PacketText.{packet_limit}
use Rattle.pcap_ng.specs.Blocks.{block_format}
use Rattle.pcap_ng.specs.Opening.{OpeningSays}
use Rattle.pcap_ng.specs.State.{State}
use Rattle.pcapfile_run.specs.declared.checked.Checked.{Checked}
use Rattle.pcapfile_run.specs.declared.format.Format.TheVariants.{Pcap, PcapNg}
use Rattle.pcapfile_run.specs.declared.checked.End.TheVariants.{Memory}
use Rattle.pcapfile_run.specs.Checks.{ChecksItems, FailsOpening, most_passed}
use Rattle.pcapfile_info.specs.declared.described.Described.{Described}
use Rattle.pcapfile_info.specs.declared.described.Machine.{Machine}
use Rattle.pcapfile_info.specs.declared.described.Opened.{Opened}
use Rattle.pcapfile_info.specs.declared.seen.Sight.{Sight}
use Rattle.pcapfile_info.specs.declared.totals.Totals.{Totals}
use Rattle.pcapfile_info.specs.Describing.{DescribesBlocks, DescribesFront, SaysMachine, machine_at, machine_told, no_machine, opened_at, section_comments}
use Rattle.pcapfile_info.specs.Sights.{IsPacketSight, IsBlockSight}
use Rattle.pcapfile_info.specs.Telling.{AreSights}
use Rattle.pcapfile_info.specs.Totals.{TotalsAre}

-- A check of s gives this result, and the totals are those of the items it counts; `first` interfaces are described before them.
pub record InformsItems {S V : Type 0} (f : Format S V) (q : S)
    (IsSight : ℕ → V → Sight → Type 0) (first : ℕ) (s after : List ℕ) (before : ℕ) (checked : Checked) (totals : Totals) : Type 0 where
  pub checks : ChecksItems f q s after before most_passed checked
  pub sights : List Sight
  pub are_sights : AreSights IsSight first checks.items sights
  pub totals_are : TotalsAre first sights totals

-- The information on a classic capture is its header and the totals of its packets, which come from one interface.
abbrev pub InformsPackets : List ℕ → Checked → Option PcapHeader → Totals → Type 0
InformsPackets s checked told_header totals =
    (checked.format ≡ Pcap)
    × ((FailsOpening ⊥ HeaderSays s checked × (told_header ≡ None) × TotalsAre 1 [] totals)
    ⊎ ((header : PcapHeader) × (after : List ℕ) × HeaderText header s after × (told_header ≡ Some header)
    × InformsItems (format_under packet_limit header) tt IsPacketSight 1 s after 0 checked totals))

-- The information on a PcapNg capture: its opening, totals, descriptions and comments; after out of memory also some of the next block's.
abbrev pub InformsBlocks : List ℕ → Checked → Option PcapHeader → Totals → Option Opened → List Described → List (String Global) → Type 0
InformsBlocks s checked told_header totals told_opening described comments =
    (checked.format ≡ PcapNg) × (told_header ≡ None)
    × ((FailsOpening ⊤ OpeningSays s checked × TotalsAre 0 [] totals × (told_opening ≡ None) × (described ≡ []) × (comments ≡ []))
    ⊎ ((first : State) × (after : List ℕ) × OpeningSays s (whole first after) × (told_opening ≡ opened_at first)
    × (informs : InformsItems block_format first IsBlockSight 0 s after 1 checked totals)
    × (((checked.end ≡ Memory) × DescribesFront first informs.checks.items described comments)
    ⊎ DescribesBlocks first informs.checks.items described comments)))

-- s begins with a section header that has a comment, or says something of how it was made.
abbrev pub OpensWithTexts : List ℕ → Type 0
OpensWithTexts s = (first : State) × (after : List ℕ) × OpeningSays s (whole first after) × ((0 < length (section_comments first)) ⊎ SaysMachine first)

-- What the first section header of s says of how it was made, or nothing if the information has no opening.
abbrev pub TellsMachine : List ℕ → Option Opened → Machine → Type 0
TellsMachine s told_opening machine =
    ((told_opening ≡ None) × (machine_told machine ≡ no_machine))
    ⊎ ((first : State) × (after : List ℕ) × OpeningSays s (whole first after) × (machine_told machine ≡ machine_at first))

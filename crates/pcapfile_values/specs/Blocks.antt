-- The structs that show C a block, and the state between two blocks.
use Rattle.std.specs.Prelude.{◌≡◌, ◌-◌, ◌^◌, ◌==◌, if◌then◌else◌, ℕ, List, length, min, Option, Some, IsSome, Result, Ok, Err}
use Rattle.std.specs.Borrow.{Bor}
use Rattle.pcap_core.specs.declared.common.Endianness.{Endianness}
use Rattle.pcap_core.specs.declared.common.Endianness.TheVariants.{Big}
use Rattle.pcap_core.specs.declared.errors.PcapError.{PcapError}
use Rattle.pcap_core.specs.Answer.{whole, lacks, faulty, Refuses}
use Rattle.pcap_items.specs.Headed.{good, bad}
use Rattle.pcap_blocks.specs.BlockType.{type_number}
use Rattle.pcap_blocks.specs.SectionHeader.{Section, SectionSays, SectionMayGrow, magic_order}
use Rattle.pcap_ng.specs.Blocks.{Item, BlockSays, MayGrow}
use Rattle.pcap_ng.specs.Frames.{Framed}
use Rattle.pcap_ng.specs.State.{State, opening, within, Means, CanGrow}
use Rattle.pcapfile_values.specs.declared.blocks.PcapfileBlock.{PcapfileBlock}
use Rattle.pcapfile_values.specs.declared.blocks.PcapfileSection.{PcapfileSection}

-- The struct shows a section: its magic number, which names a byte order, and its version.
pub record ShowsSection (shown : PcapfileSection) (section : Section) : Type 0 where
  pub magic : shown.magic_number ≡ section.magic
  pub named : IsSome (magic_order section.magic)
  pub major : shown.version_major ≡ section.major_version
  pub minor : shown.version_minor ≡ section.minor_version

-- The struct shows the state: magic number 0 before the first block, or the section and its number of interfaces, at most 2^32 - 1.
abbrev pub ShowsState : PcapfileSection → State → Type 0
ShowsState shown opening = shown.magic_number ≡ 0
ShowsState shown (within section interfaces) = ShowsSection shown section × (shown.interfaces ≡ min (length interfaces) (2 ^ 32 - 1))

-- The byte order of a block that is no section header: big-endian before the first block, later the one that the magic number names.
abbrev pub order_shown : ℕ → Option Endianness
order_shown magic = if magic == 0 then Some Big else magic_order magic

-- The struct shows a block: its type and its body.
abbrev pub ShowsBlock : Framed → PcapfileBlock → Type 0
ShowsBlock b shown = (shown.type_ ≡ type_number b.type_) × (shown.body.now ≡ b.body)

-- The result of reading the section that begins with a section header of this body.
abbrev pub TellsSection : List ℕ → Result PcapfileSection PcapError → Type 0
TellsSection body (Ok shown) = (section : Section) × (rest : List ℕ) × SectionSays body (whole section rest) × ShowsSection shown section × (shown.interfaces ≡ 0)
TellsSection body (Err e) = Refuses (SectionMayGrow body) (λ n. ⊥) (λ fault. SectionSays body (faulty fault)) e

-- The result of a block for the state: the new state, or the reason why the block is refused.
abbrev pub LeadsTells : State → Framed → Result PcapfileSection PcapError → Type 0
LeadsTells q b (Ok shown) = (after : State) × ShowsState shown after × Means q b (good after)
LeadsTells q b (Err e) = Refuses (CanGrow q b) (λ n. ⊥) (λ fault. Means q b (bad fault)) e

-- The result of reading the block at the front of bytes, and the state after it.
abbrev pub NextTells : State → List ℕ → Result (Bor (List ℕ) × (PcapfileBlock × PcapfileSection)) PcapError → Type 0
NextTells q s (Ok x) = (item : Item) × ShowsBlock item.block x.1.0 × ShowsState x.1.1 item.after × BlockSays q s (whole item x.0.now)
NextTells q s (Err e) = Refuses (MayGrow q s) (λ n. BlockSays q s (lacks n)) (λ fault. BlockSays q s (faulty fault)) e

-- The changes that blocks make to what is in force ('Section Header Block', 'Interface Description Block').
use Rattle.std.specs.Prelude.{◌≡◌, ℕ, List, true, false, ⊤, Result, Ok, Err}
use Rattle.pcap_core.specs.declared.errors.PcapError.{PcapError}
use Rattle.pcap_core.specs.Answer.{number_in, whole, faulty, Refuses}
use Rattle.pcap_items.specs.Headed.{bad}
use Rattle.pcap_blocks.specs.declared.block_type.BlockType.TheVariants as types
use Rattle.pcap_blocks.specs.declared.section_header.SectionHeaderBlock.{SectionHeaderBlock}
use Rattle.pcap_blocks.specs.SectionHeader.{SectionSays, SectionIsBorrowed, section_of}
use Rattle.pcap_blocks.specs.InterfaceDescription.{InterfaceSays, InterfaceIsBorrowed, interface_of}
use Rattle.pcap_ng.specs.declared.pcapng.change.Change.{Change}
use Rattle.pcap_ng.specs.declared.pcapng.change.Change.TheVariants as changes
use Rattle.pcap_ng.specs.Bodies.{GrowsInBody, SaysOfBody}
use Rattle.pcap_ng.specs.Frames.{Framed}
use Rattle.pcap_ng.specs.State.{opening, is_kept, Means}

-- After the first section header, a block puts in force its section, its interface or nothing, by its type. Only a section header
-- or an interface description can be refused, for a fault of its body or for memory.
abbrev pub ChangeTells : Framed → Result Change PcapError → Type 0
ChangeTells b (Ok (changes.Section section)) = (b.type_ ≡ types.SectionHeader) × (rest : List ℕ) × SectionSays b.body (whole (section_of section) rest)
ChangeTells b (Ok (changes.Interface interface)) =
    (b.type_ ≡ types.InterfaceDescription) × (rest : List ℕ) × InterfaceSays (number_in b.endianness) b.body (whole (interface_of interface) rest)
ChangeTells b (Ok changes.Nothing) = is_kept b.type_ ≡ false
ChangeTells b (Err e) = (is_kept b.type_ ≡ true) × Refuses (GrowsInBody b) (λ n. ⊥) (λ fault. SaysOfBody b (faulty fault)) e

-- The contents of a change are borrowed.
abbrev pub ChangeIsBorrowed : Change → Type 0
ChangeIsBorrowed (changes.Section section) = SectionIsBorrowed section
ChangeIsBorrowed (changes.Interface interface) = InterfaceIsBorrowed interface
ChangeIsBorrowed changes.Nothing = ⊤

-- A first block puts its section in force, or is refused: it is no section header, its body has a fault, or memory runs out.
abbrev pub FirstTells : Framed → Result SectionHeaderBlock PcapError → Type 0
FirstTells b (Ok section) = (b.type_ ≡ types.SectionHeader) × (rest : List ℕ) × SectionSays b.body (whole (section_of section) rest)
FirstTells b (Err e) = Refuses (GrowsInBody b) (λ n. ⊥) (λ fault. Means opening b (bad fault)) e

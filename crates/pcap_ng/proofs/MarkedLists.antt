-- A block whose list of options ends with its mark is a block.
use Rattle.std.proofs.Common.{◌≡◌, ℕ, List, ◌++◌, refl, sym, ap, subst, ◌∙◌}
use Rattle.pcap_core.specs.Answer.{number_in, whole}
use Rattle.pcap_items.specs.Format.{Extends, Front}
use Rattle.pcap_items.specs.Headed.{good}
use Rattle.pcap_items.proofs.Formats.{front_extends}
use Rattle.pcap_blocks.specs.declared.block_type.BlockType.{BlockType}
use Rattle.pcap_blocks.specs.declared.block_type.BlockType.TheVariants as types
use Rattle.pcap_options.specs.InterfaceOption.{interface_description}
use Rattle.pcap_blocks.specs.InterfaceDescription.{Interface, InterfaceText}
use Rattle.pcap_blocks.specs.ParsedBlock.{SectionBody, InterfaceBody, BodySays}
use Rattle.pcap_options.specs.SectionOption.{section_header}
use Rattle.pcap_blocks.specs.SectionHeader.{Section, SectionText}
use Rattle.pcap_options.proofs.OneList.{list_kept}
use Rattle.pcap_ng.specs.Blocks.{Item, BlockText, block_format}
use Rattle.pcap_ng.specs.Frames.{Framed}
use Rattle.pcap_ng.specs.MarkedLists.{MarkedSection, MarkedInterface, MarkedLeads, to_section, to_interface, nowhere, MarkedText, marked_format}
use Rattle.pcap_ng.specs.State.{State, within, is_kept, Means}
use Rattle.pcap_ng.proofs.BlockFormat.{blocks_lawful}
use Rattle.pcap_ng.proofs.KeptBodies.{read_means, read_section, leads_section}

section_unmarked : (section : Section) (s rest : List ℕ) → MarkedSection section s rest → SectionText section s rest
section_unmarked section s rest x = record {
  after_magic = x.after_magic;
  endianness = x.endianness;
  magic_is = x.magic_is;
  names = x.names;
  after = record { after_version = x.after_version; version = x.version; options_are = list_kept (number_in x.endianness) section_header section.options x.after_version rest x.options_are };
}

interface_unmarked : (order : ℕ → List ℕ → ℕ) (interface : Interface) (s rest : List ℕ) → MarkedInterface order interface s rest → InterfaceText order interface s rest
interface_unmarked order interface s rest x = record { after_head = x.after_head; head = x.head; options_are = list_kept order interface_description interface.options x.after_head rest x.options_are }

marked_means : (q : State) (b : Framed) (next : State) → MarkedLeads b next q → Means q b (good next)
marked_means _ b next (to_section q section rest is text there) =
    let said : BodySays (number_in b.endianness) types.SectionHeader b.body (whole (SectionBody section) rest) = (section, refl, section_unmarked section b.body rest text) in
    let here : BodySays (number_in b.endianness) b.type_ b.body (whole (SectionBody section) rest) = subst (λ (t : BlockType). BodySays (number_in b.endianness) t b.body (whole (SectionBody section) rest)) (sym is) said in
    read_means q b (good next) (read_section b is q) (SectionBody section, rest, here, leads_section b is q section ∙ ap good (sym there))
marked_means _ b next (to_interface section interfaces interface rest is text there) =
    let q = within section interfaces in
    let said : BodySays (number_in b.endianness) types.InterfaceDescription b.body (whole (InterfaceBody interface) rest) = (interface, refl, interface_unmarked (number_in b.endianness) interface b.body rest text) in
    let here : BodySays (number_in b.endianness) b.type_ b.body (whole (InterfaceBody interface) rest) = subst (λ (t : BlockType). BodySays (number_in b.endianness) t b.body (whole (InterfaceBody interface) rest)) (sym is) said in
    read_means q b (good next) (ap is_kept is) (InterfaceBody interface, rest, here, ap good (sym there))
marked_means _ b next (nowhere q none there) = rw none there

pub block_unmarked : (q : State) (item : Item) (s rest : List ℕ) → MarkedText q item s rest → BlockText q item s rest
block_unmarked q item s rest x = record { frame = x.frame; means = marked_means q item.block item.after x.leads_on }

pub marked_extends : Extends marked_format block_format
unfolding marked_format block_format
marked_extends = record { texts = λ q s rest item text. block_unmarked q item s rest text; goes = λ q item. refl }

pub marked_begins : (q : State) (items others : List Item) (s a b : List ℕ) → Front marked_format q items s a → Front block_format q others s b → (more : List Item) × (others ≡ items ++ more)
marked_begins q items others s a b x y = front_extends marked_format block_format blocks_lawful marked_extends q items others s a b x y

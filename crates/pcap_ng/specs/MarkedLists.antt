-- Captures in which every list of options ends with its mark, as the rule was before a list could end with its block ('Options').
use Rattle.std.specs.Prelude.{◌≡◌, ℕ, List, [], ◌∷◌, ◌++◌, false, Some}
use Rattle.byteorder.specs.Endian.{big_number}
use Rattle.pcap_core.specs.declared.common.Endianness.{Endianness}
use Rattle.pcap_core.specs.Answer.{Order, Number, number_in, Says}
use Rattle.pcap_items.specs.Format.{Format}
use Rattle.pcap_blocks.specs.declared.block_type.BlockType.TheVariants as types
use Rattle.pcap_options.specs.InterfaceOption.{interface_description}
use Rattle.pcap_blocks.specs.InterfaceDescription.{Interface, InterfaceHead}
use Rattle.pcap_options.specs.Options.{wants_end, OptionList}
use Rattle.pcap_options.specs.SectionOption.{section_header}
use Rattle.pcap_blocks.specs.SectionHeader.{Section, VersionText, magic_order}
use Rattle.pcap_ng.specs.Blocks.{Item}
use Rattle.pcap_ng.specs.Frames.{Framed, FrameText, FrameLacks, FrameFault}
use Rattle.pcap_ng.specs.State.{State, within, order_at, is_read}

-- MarkedSection section s rest: s is the body of a section header whose options, if it has any, end with the mark, followed by
-- rest.
pub record MarkedSection (section : Section) (s rest : List ℕ) : Type 0 where
  pub after_magic : List ℕ
  pub after_version : List ℕ
  pub endianness : Endianness
  pub magic_is : Number big_number 4 section.magic s after_magic
  pub names : magic_order section.magic ≡ Some endianness
  pub version : VersionText (number_in endianness) section after_magic after_version
  pub options_are : OptionList wants_end (number_in endianness) section_header section.options after_version rest

-- MarkedInterface order interface s rest: s is the body of an interface description whose options, if it has any, end with the
-- mark, followed by rest.
pub record MarkedInterface (order : Order) (interface : Interface) (s rest : List ℕ) : Type 0 where
  pub after_head : List ℕ
  pub head : InterfaceHead order interface s after_head
  pub options_are : OptionList wants_end order interface_description interface.options after_head rest

-- MarkedLeads b next q: a block with marked lists leads from state q to state next.
pub data MarkedLeads (b : Framed) (next : State) : State → Type 0 where
  to_section : (q : State) (section : Section) (rest : List ℕ)
      → b.type_ ≡ types.SectionHeader → MarkedSection section b.body rest → next ≡ within section [] → MarkedLeads b next q
  to_interface : (section : Section) (interfaces : List Interface) (interface : Interface) (rest : List ℕ) → b.type_ ≡ types.InterfaceDescription
      → MarkedInterface (number_in b.endianness) interface b.body rest
      → next ≡ within section (interfaces ++ interface ∷ []) → MarkedLeads b next (within section interfaces)
  nowhere : (q : State) → is_read q b.type_ ≡ false → next ≡ q → MarkedLeads b next q

-- MarkedText q item s rest: s is a block with marked lists under state q, followed by rest.
pub record MarkedText (q : State) (item : Item) (s rest : List ℕ) : Type 0 where
  pub frame : FrameText (order_at q) item.block s rest
  pub leads_on : MarkedLeads item.block item.after q

-- The format of blocks with marked lists; a front depends only on their texts.
unfoldable pub marked_format : Format State Item
marked_format = record {
  says = λ q s. Says (λ item rest. MarkedText q item s rest) (FrameLacks (order_at q) s) (FrameFault (order_at q) s);
  goes = λ q item. item.after;
  head = λ q. 12;
}

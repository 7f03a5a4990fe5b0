-- The body of an interface description ('Interface Description Block').
use Rattle.std.specs.Prelude.{◌≡◌, ◌<◌, ℕ, List, [], length, map, All}
use Rattle.pcap_core.specs.declared.link.DataLink.{DataLink}
use Rattle.pcap_core.specs.declared.rules.Rule.TheVariants as rules
use Rattle.pcap_core.specs.Answer.{Order, Number, Verdict, Says}
use Rattle.pcap_core.specs.Faults.{Fault, Invalid}
use Rattle.pcap_core.specs.Link.{Link}
use Rattle.pcap_blocks.specs.declared.interface_description.InterfaceDescriptionBlock.{InterfaceDescriptionBlock}
use Rattle.pcap_core.specs.Padded.{Behind}
use Rattle.pcap_options.specs.Values.{Entry}
use Rattle.pcap_options.specs.Growth.{HoldsAfter}
use Rattle.pcap_options.specs.Options.{may_end_with_body, OptionList, ListFault, OptionsMayGrow}
use Rattle.pcap_options.specs.InterfaceOption.{interface_description, interface_entry, InterfaceOptionIsBorrowed, InterfaceOptionIsOwned}

-- An interface, wherever its options are in memory.
pub record Interface : Type 0 where
  pub linktype : DataLink
  pub reserved : ℕ
  pub snaplen : ℕ
  pub options : List Entry

-- `s` is the link type, the reserved number and the snapshot length of an interface, and then `rest`.
pub record InterfaceHead (order : Order) (interface : Interface) (s rest : List ℕ) : Type 0 where
  pub link_number : ℕ
  pub after_link : List ℕ
  pub after_reserved : List ℕ
  pub link_number_is : Number order 2 link_number s after_link
  pub link_is : Link link_number interface.linktype
  pub reserved_is : Number order 2 interface.reserved after_link after_reserved
  pub snaplen_is : Number order 4 interface.snaplen after_reserved rest

-- `s` is the body of an interface description and then `rest`: the link type, reserved number, snapshot length and options.
pub record InterfaceText (order : Order) (interface : Interface) (s rest : List ℕ) : Type 0 where
  pub after_head : List ℕ
  pub head : InterfaceHead order interface s after_head
  pub options_are : OptionList may_end_with_body order interface_description interface.options after_head rest

-- The first fault of `s` as the body of an interface description: too few bytes, or the fault of its options.
pub data InterfaceFault (order : Order) (s : List ℕ) : Fault → Type 0 where
  short : length s < 8 → InterfaceFault order s (Invalid rules.InterfaceTooShort)
  in_options : (fault : Fault) (after : List ℕ) → Behind 8 s after
      → ListFault may_end_with_body order interface_description after fault → InterfaceFault order s fault

-- InterfaceSays order s verdict: `s` read as the body of an interface description gives this verdict, the interface or a fault.
abbrev pub InterfaceSays : Order → List ℕ → Verdict Interface → Type 0
InterfaceSays order s = Says (λ interface rest. InterfaceText order interface s rest) (λ n. ⊥) (InterfaceFault order s)

-- Reading an interface may allocate only if the interface has an option.
abbrev pub InterfaceMayGrow : Order → List ℕ → Type 0
InterfaceMayGrow order = HoldsAfter 8 (OptionsMayGrow order interface_description)

-- The interface of a block in the code.
abbrev pub interface_of : InterfaceDescriptionBlock → Interface
interface_of block = record {
  linktype = block.linktype;
  reserved = block.reserved;
  snaplen = block.snaplen;
  options = map interface_entry block.options.items;
}

-- All strings and bytes of the interface's options are borrowed.
abbrev pub InterfaceIsBorrowed : InterfaceDescriptionBlock → Type 0
InterfaceIsBorrowed block = All InterfaceOptionIsBorrowed block.options.items

-- All strings and bytes of the interface's options are owned.
abbrev pub InterfaceIsOwned : InterfaceDescriptionBlock → Type 0
InterfaceIsOwned block = All InterfaceOptionIsOwned block.options.items

-- Making an interface owned takes no memory: it has no options.
abbrev pub InterfaceNeedsNoMemory : InterfaceDescriptionBlock → Type 0
InterfaceNeedsNoMemory block = block.options.items ≡ []

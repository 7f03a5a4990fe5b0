-- Interfaces without their options ('Interface Description Block').
use Rattle.std.specs.Prelude.{◌≡◌, List, Option, Some, None}
use Rattle.pcap_blocks.specs.InterfaceDescription.{Interface}
use Rattle.pcap_options.specs.Held.{first_under, number_in}
use Rattle.pcap_options.specs.Values.{Entry}
use Rattle.pcap_tolerant_blocks.specs.declared.outline.ClockOptions.{ClockOptions}
use Rattle.pcap_tolerant_blocks.specs.declared.outline.InterfaceOutline.{InterfaceOutline}

-- The numbers of the first if_tsresol and the first if_tsoffset of these options.
pub record IsClockIn (options : List Entry) (clock : ClockOptions) : Type 0 where
  pub resolution : clock.resolution ≡ first_under 9 number_in options
  pub offset : clock.offset ≡ first_under 14 number_in options

-- The outline has the interface's link type, its snapshot length, and the numbers of its first if_tsresol and its first if_tsoffset.
pub record Outlines (interface : Interface) (outline : InterfaceOutline) : Type 0 where
  pub link : outline.linktype ≡ interface.linktype
  pub snaplen : outline.snaplen ≡ interface.snaplen
  pub resolution : outline.resolution ≡ first_under 9 number_in interface.options
  pub offset : outline.offset ≡ first_under 14 number_in interface.options

-- The outline of an interface, if there is room for the interface's head.
abbrev pub IsOutlineOf : Option Interface → Option InterfaceOutline → Type 0
IsOutlineOf None outline = outline ≡ None
IsOutlineOf (Some interface) None = ⊥
IsOutlineOf (Some interface) (Some outline) = Outlines interface outline

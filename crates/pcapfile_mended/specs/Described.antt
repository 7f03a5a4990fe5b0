-- Descriptions of interfaces whose own description is lost.
use Rattle.std.specs.Prelude.{◌≡◌, ℕ, List, unwrap_or, Result, Ok, Err}
use Rattle.pcap_core.specs.declared.common.Endianness.{Endianness}
use Rattle.pcap_core.specs.Codec.{number_bytes}
use Rattle.pcap_blocks.specs.InterfaceDescription.{Interface}
use Rattle.pcap_blocks.specs.ParsedBlock.{InterfaceBody}
use Rattle.pcap_options.specs.Held.{first_under, number_in}
use Rattle.pcap_written.specs.Bodies.{text_of}
use Rattle.pcap_written.specs.Writing.{FlawIn, IsFitIn}
use Rattle.pcap_written.specs.declared.unwritable.Unput.{Unput}
use Rattle.pcap_written.specs.declared.unwritable.Unput.TheVariants.{Memory, Unfit}
use Rattle.pcapfile_mended.specs.declared.described.Described.{Described}

-- The interface has this link type, this snapshot length, and this clock: the number of its first if_tsresol, or 6 for microseconds, and
-- that of its first if_tsoffset, or 0.
pub record IsDescribed (described : Described) (interface : Interface) : Type 0 where
  pub link : described.link ≡ interface.linktype
  pub snaplen : described.snaplen ≡ interface.snaplen
  pub resolution : described.resolution ≡ unwrap_or (first_under 9 number_in interface.options) 6
  pub offset : described.offset ≡ unwrap_or (first_under 14 number_in interface.options) 0

-- Packets have the same link type and the same times by both.
pub record Agree (one other : Described) : Type 0 where
  pub link : one.link ≡ other.link
  pub resolution : one.resolution ≡ other.resolution
  pub offset : one.offset ≡ other.offset

-- The text is an interface described so, which strict reading takes; or it can't be written for this reason, or memory ran out.
abbrev pub WritesDescription : Endianness → Described → List ℕ → Result (Unit {0}) Unput → Type 0
WritesDescription order like text (Ok u) = (interface : Interface) × IsDescribed like interface × IsFitIn order (InterfaceBody interface) × (text ≡ text_of (number_bytes order) (InterfaceBody interface))
WritesDescription order like text (Err (Memory e)) = Unit {0}
WritesDescription order like text (Err (Unfit flaw)) = (interface : Interface) × IsDescribed like interface × FlawIn order (InterfaceBody interface) flaw

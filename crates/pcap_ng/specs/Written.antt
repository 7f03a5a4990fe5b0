-- The readings of blocks that were written, or made from values.
use Rattle.std.specs.Prelude.{◌≡◌, ℕ, List, length, true, Some, Result, Ok, Err}
use Rattle.pcap_core.specs.declared.common.Endianness.{Endianness}
use Rattle.pcap_core.specs.declared.errors.PcapError.{PcapError}
use Rattle.pcap_core.specs.declared.errors.PcapError.TheVariants as errors
use Rattle.pcap_core.specs.Answer.{whole}
use Rattle.pcap_core.specs.Codec.{number_bytes}
use Rattle.pcap_blocks.specs.ParsedBlock.{Body}
use Rattle.pcap_written.specs.declared.unwritable.Unwritable.{Unwritable}
use Rattle.pcap_written.specs.Bodies.{body_text, magic_in, order_under, type_of}
use Rattle.pcap_written.specs.declared.place.Place.{Place}
use Rattle.pcap_written.specs.Fits.{kept_body}
use Rattle.pcap_written.specs.Flaws.{flaw_message}
use Rattle.pcap_written.specs.Mixed.{Written, of_bytes, of_value}
use Rattle.pcap_written.specs.Writing.{IsFitIn, OwnFlaw}
use Rattle.pcap_ng.specs.declared.pcapng.block.Block.{Block}
use Rattle.pcap_ng.specs.Blocks.{Item}
use Rattle.pcap_ng.specs.Bodies.{SaysOfBody}
use Rattle.pcap_ng.specs.Frames.{Framed, framed_of}
use Rattle.pcap_ng.specs.RawBlocks.{framed_raw, raw_in}
use Rattle.pcap_ng.specs.State.{State, interfaces_at, is_kept, order_at}

-- The body of the item's block is read as this body.
abbrev pub IsBodyOf : Item → Body → Type 0
IsBodyOf item body = (rest : List ℕ) × SaysOfBody item.block (whole body rest)

-- A written block is read as it was: a value as its body, and a block of bytes with its type, its byte order and its body.
abbrev pub IsReadAs : Item → Written → Type 0
IsReadAs item (of_value body) = IsBodyOf item (kept_body body)
IsReadAs item (of_bytes raw) = raw_in item.block ≡ raw

-- If a block of bytes is a section header or an interface description, its body can be read.
abbrev pub IsReadable : Written → Type 0
IsReadable (of_value body) = Unit {0}
IsReadable (of_bytes raw) = is_kept raw.type_ ≡ true → (body : Body) × (rest : List ℕ) × SaysOfBody (framed_raw raw) (whole body rest)

-- A writer at this place reports the byte order and the number of interfaces that are in force in the state.
abbrev pub StandsAt : Place → State → Type 0
StandsAt at q = (order_at q ≡ at.endianness) × (length (interfaces_at q) ≡ at.interfaces)

-- The block in its frame with this body, in this byte order.
abbrev pub framed_in : Endianness → Body → Framed
framed_in e body = framed_raw (record { type_ = type_of body; endianness = e; body = body_text (number_bytes e) body })

-- IsMadeOf current body b: b has this body, in the order `current` or, for a section header, in the order that its magic number
-- names. The body can be written.
pub record IsMadeOf (current : Endianness) (body : Body) (b : Framed) : Type 0 where
  pub named : order_under current (magic_in body) ≡ Some b.endianness
  pub fit : IsFitIn b.endianness body
  pub frame : b ≡ framed_in b.endianness body

-- A block was made, or this flaw prevents it, or memory ran out.
abbrev pub MakesBlock : Endianness → Body → Result Block PcapError → Type 0
MakesBlock current body (Ok block) = IsMadeOf current body (framed_of block)
MakesBlock current body (Err (errors.InvalidField message)) = (flaw : Unwritable) × (message.now ≡ flaw_message flaw) × OwnFlaw current body flaw
MakesBlock current body (Err (errors.OutOfMemory e)) = Unit {0}
MakesBlock current body (Err _) = ⊥

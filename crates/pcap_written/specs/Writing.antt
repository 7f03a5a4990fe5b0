-- The results of calls that write blocks.
use Rattle.std.specs.Prelude.{◌≡◌, ◌≤◌, ◌<◌, ◌+◌, ◌^◌, ◌⊎◌, ℕ, List, Bool, true, false, Option, Some, None, Result, Ok, Err, length}
use Rattle.std.specs.Io.KnownBytes.{Appends, Keeps}
use Rattle.pcap_core.specs.declared.common.Endianness.{Endianness}
use Rattle.pcap_core.specs.declared.common.Endianness.TheVariants.{Little}
use Rattle.pcap_core.specs.declared.errors.PcapError.{PcapError}
use Rattle.pcap_core.specs.declared.errors.PcapError.TheVariants as errors
use Rattle.pcap_core.specs.declared.rules.Rule.TheVariants.{SectionMagic}
use Rattle.pcap_core.specs.Answer.{Order, number_in}
use Rattle.pcap_items.specs.Writing.{AppendsPart}
use Rattle.pcap_blocks.specs.declared.block_type.BlockType.{BlockType}
use Rattle.pcap_blocks.specs.declared.block_type.BlockType.TheVariants as types
use Rattle.pcap_blocks.specs.ParsedBlock.{Body}
use Rattle.pcap_written.specs.declared.block.BlockHead.{BlockHead}
use Rattle.pcap_written.specs.declared.unwritable.Unwritable.{Unwritable}
use Rattle.pcap_written.specs.declared.unwritable.Unwritable.TheVariants as flaws
use Rattle.pcap_written.specs.declared.unwritable.Unput.{Unput}
use Rattle.pcap_written.specs.declared.place.Place.{Place}
use Rattle.pcap_written.specs.declared.writer.PcapNgWriter.{PcapNgWriter}
use Rattle.pcap_core.specs.Codec.{Encoder, number_bytes}
use Rattle.pcap_written.specs.Bodies.{body_text, head_of, magic_in, order_under, text_of}
use Rattle.pcap_written.specs.Fits.{IsFitBody}
use Rattle.pcap_written.specs.Flaws.{BodyFlaw, flaw_message}
use Rattle.pcap_written.specs.Puts.{RefusesPut}

-- The number of interfaces after a block of this type; a section begins with none.
abbrev pub interfaces_after : ℕ → BlockType → ℕ
interfaces_after n types.SectionHeader = 0
interfaces_after n types.InterfaceDescription = n + 1
interfaces_after n _ = n

-- The byte order of a block with this magic number, or the current order if it has none; or its magic number names no order.
abbrev pub NamesOrder : Endianness → Option ℕ → Result Endianness Unwritable → Type 0
NamesOrder current magic (Ok order) = order_under current magic ≡ Some order
NamesOrder current magic (Err flaw) = (flaw ≡ flaws.Breaks SectionMagic) × (order_under current magic ≡ None)

-- A block can follow here: its magic number names a byte order, its interface is described, and the interfaces have room.
pub record IsPlaced (at : Place) (head : BlockHead) (order : Endianness) : Type 0 where
  pub named : order_under at.endianness head.magic ≡ Some order
  pub known : (id : ℕ) → head.interface_id ≡ Some id → id < at.interfaces
  pub room : interfaces_after at.interfaces head.type_ < 2 ^ 32

-- A block with this head can't be written at this place, for this reason.
abbrev pub PlaceFlaw : Place → BlockHead → Unwritable → Type 0
PlaceFlaw at head (flaws.Breaks rule) = (rule ≡ SectionMagic) × (order_under at.endianness head.magic ≡ None)
PlaceFlaw at head flaws.InterfaceMissing = (id : ℕ) × (head.interface_id ≡ Some id) × (at.interfaces ≤ id)
PlaceFlaw at head flaws.InterfacesFull = 2 ^ 32 ≤ interfaces_after at.interfaces head.type_
PlaceFlaw at head _ = ⊥

-- The place after a block with this head, or the reason why it can't be written here.
abbrev pub TellsPlace : Place → BlockHead → Result Place Unwritable → Type 0
TellsPlace at head (Ok behind) = IsPlaced at head behind.endianness × (behind.interfaces ≡ interfaces_after at.interfaces head.type_)
TellsPlace at head (Err flaw) = PlaceFlaw at head flaw

-- The body can be written in this byte order, in a block whose length fits four bytes.
pub record IsFitBlock (order : Order) (write : Encoder) (body : Body) : Type 0 where
  pub fit : IsFitBody order write body
  pub short : length (body_text write body) + 12 < 2 ^ 32

-- A block can't be written in this byte order, for this reason.
abbrev pub FitFlaw : Order → Encoder → Body → Unwritable → Type 0
FitFlaw order write body flaws.BlockTooLong = 2 ^ 32 ≤ length (body_text write body) + 12
FitFlaw order write body flaw = BodyFlaw order write body flaw

-- The body can be written in the byte order of this name.
abbrev pub IsFitIn : Endianness → Body → Type 0
IsFitIn e = IsFitBlock (number_in e) (number_bytes e)

abbrev pub FlawIn : Endianness → Body → Unwritable → Type 0
FlawIn e = FitFlaw (number_in e) (number_bytes e)

-- The block can't be written under this current order: its magic number names no order, or it can't be written in its own.
abbrev pub OwnFlaw : Endianness → Body → Unwritable → Type 0
OwnFlaw current body flaw =
    NamesOrder current (magic_in body) (Err flaw) ⊎ ((order : Endianness) × (order_under current (magic_in body) ≡ Some order) × FlawIn order body flaw)

-- The body of a block was made in the block's own byte order, or the block can't be written for this reason.
abbrev pub MakesBody : Endianness → Body → List ℕ → Result Endianness Unput → Type 0
MakesBody current body text (Ok order) = (order_under current (magic_in body) ≡ Some order) × IsFitIn order body × (text ≡ body_text (number_bytes order) body)
MakesBody current body text (Err e) = RefusesPut (OwnFlaw current body) e

-- A block can be written at this place, in this byte order.
pub record IsWritable (at : Place) (body : Body) (order : Endianness) : Type 0 where
  pub placed : IsPlaced at (head_of body) order
  pub fit : IsFitIn order body

-- A block can't be written at this place, for this reason.
abbrev pub BlockFlaw : Place → Body → Unwritable → Type 0
BlockFlaw at body flaw = PlaceFlaw at (head_of body) flaw ⊎ ((order : Endianness) × IsPlaced at (head_of body) order × FlawIn order body flaw)

-- The wrapped stream of a writer.
abbrev pub stream_of : {W : Type 0} → PcapNgWriter W → W
stream_of w = w.inner

-- A write to the wrapped stream failed.
abbrev pub has_failed : {W : Type 0} → PcapNgWriter W → Bool
has_failed w = w.has_failed

-- The place after the blocks that the writer wrote.
abbrev pub place_of : {W : Type 0} → PcapNgWriter W → Place
place_of w = w.place

-- Nothing was written, and the writer's place is unchanged.
pub record IsKept {W : Type 0} (contents : W → Option (List ℕ)) (old new : PcapNgWriter W) : Type 0 where
  pub good : has_failed new ≡ false
  pub place : place_of new ≡ place_of old
  pub out : Keeps (contents (stream_of old)) (contents (stream_of new))

-- The result of writing a block if no earlier write failed. If the block can't be written, or memory ran out, nothing is written. Else
-- it was written whole, or a write failed after a beginning of it.
abbrev pub WritesGood : {W : Type 0} → (W → Option (List ℕ)) → PcapNgWriter W → PcapNgWriter W → Body → Result (Unit {0}) PcapError → Type 0
WritesGood contents old new body (Err (errors.InvalidField message)) =
    IsKept contents old new × ((flaw : Unwritable) × (message.now ≡ flaw_message flaw) × BlockFlaw (place_of old) body flaw)
WritesGood contents old new body (Err (errors.OutOfMemory e)) = IsKept contents old new
WritesGood contents old new body (Err (errors.IoError e)) =
    (has_failed new ≡ true) × (place_of new ≡ place_of old)
    × ((order : Endianness) × IsWritable (place_of old) body order
    × AppendsPart (contents (stream_of old)) (contents (stream_of new)) (text_of (number_bytes order) body))
WritesGood contents old new body (Err _) = ⊥
WritesGood contents old new body (Ok u) =
    (has_failed new ≡ false) × TellsPlace (place_of old) (head_of body) (Ok (place_of new)) × IsFitIn (place_of new).endianness body
    × Appends (contents (stream_of old)) (contents (stream_of new)) (text_of (number_bytes (place_of new).endianness) body)

-- The result of writing a block: an earlier write failed, and nothing is written, or it is as above.
abbrev pub WritesBlock : {W : Type 0} → (W → Option (List ℕ)) → PcapNgWriter W → PcapNgWriter W → Body → Result (Unit {0}) PcapError → Type 0
WritesBlock contents old new body (Err errors.WriterFailed) =
    (has_failed old ≡ true) × (has_failed new ≡ true) × (place_of new ≡ place_of old) × Keeps (contents (stream_of old)) (contents (stream_of new))
WritesBlock contents old new body result = (has_failed old ≡ false) × WritesGood contents old new body result

-- The place before the first section of a capture: no interface; the first section sets the byte order.
abbrev pub opening_place : Place
opening_place = record { endianness = Little; interfaces = 0 }

-- The result of making a writer: its section header was written, or it can't be written, or memory ran out, or a write failed.
abbrev pub OpensWriter : {W : Type 0} → (W → Option (List ℕ)) → Body → W → Result (PcapNgWriter W) PcapError → Type 0
OpensWriter contents body writer (Err (errors.InvalidField message)) =
    (flaw : Unwritable) × (message.now ≡ flaw_message flaw) × BlockFlaw opening_place body flaw
OpensWriter contents body writer (Err (errors.OutOfMemory e)) = Unit {0}
OpensWriter contents body writer (Err (errors.IoError e)) = (order : Endianness) × IsWritable opening_place body order
OpensWriter contents body writer (Err _) = ⊥
OpensWriter contents body writer (Ok made) =
    (has_failed made ≡ false) × TellsPlace opening_place (head_of body) (Ok (place_of made)) × IsFitIn (place_of made).endianness body
    × Appends (contents writer) (contents (stream_of made)) (text_of (number_bytes (place_of made).endianness) body)

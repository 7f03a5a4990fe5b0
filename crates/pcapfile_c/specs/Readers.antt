-- What is behind the pointers of a call, before it and after it.
use Rattle.std.specs.Prelude.{ℕ, List}
use Rattle.pcapfile_values.specs.declared.any_packets.PcapfileAnyPacket.{PcapfileAnyPacket}
use Rattle.pcapfile_values.specs.declared.blocks.PcapfileSection.{PcapfileSection}
use Rattle.pcapfile_values.specs.declared.bodies.PcapfileInterface.{PcapfileInterface}
use Rattle.pcapfile_values.specs.declared.errors.PcapfileError.{PcapfileError}
use Rattle.pcapfile_values.specs.declared.shown.PcapfileHeader.{PcapfileHeader}
use Rattle.pcapfile_c.specs.declared.any.PcapfileCapture.{PcapfileCapture}

-- A call sets a value, and the error.
pub record Target (S : Type 0) : Type 0 where
  pub value : S
  pub error : PcapfileError

-- The target with this value and error.
abbrev pub target : {S : Type 0} → S → PcapfileError → Target S
target value error = record { value = value; error = error }

-- A call reads from the bytes that are left, and sets a value and the error. The bytes are lent or held in a room.
pub record Reader (L S : Type 0) : Type 0 where
  pub left : L
  pub value : S
  pub error : PcapfileError

-- The reader with these bytes, this value and this error.
abbrev pub reader : {L S : Type 0} → L → S → PcapfileError → Reader L S
reader left value error = record { left = left; value = value; error = error }

-- A reader of a classic capture, which reads the header first and keeps it.
pub record HeaderReader (S : Type 0) : Type 0 where
  pub header : PcapfileHeader
  pub left : List ℕ
  pub value : S
  pub error : PcapfileError

-- The reader with this header, these bytes, this value and this error.
abbrev pub header_reader : {S : Type 0} → PcapfileHeader → List ℕ → S → PcapfileError → HeaderReader S
header_reader header left value error = record { header = header; left = left; value = value; error = error }

-- A reader of blocks, which keeps the section.
pub record BlockReader (L S : Type 0) : Type 0 where
  pub section : PcapfileSection
  pub left : L
  pub value : S
  pub error : PcapfileError

-- The reader with this section, these bytes, this value and this error.
abbrev pub block_reader : {L S : Type 0} → PcapfileSection → L → S → PcapfileError → BlockReader L S
block_reader section left value error = record { section = section; left = left; value = value; error = error }

-- A reader of packets in blocks, which keeps the section and the places of interfaces.
pub record PacketReader (L S : Type 0) : Type 0 where
  pub section : PcapfileSection
  pub places : List PcapfileInterface
  pub left : L
  pub value : S
  pub error : PcapfileError

-- The reader with this section, these places, these bytes, this value and this error.
abbrev pub packet_reader : {L S : Type 0} → PcapfileSection → List PcapfileInterface → L → S → PcapfileError → PacketReader L S
packet_reader section places left value error = record { section = section; places = places; left = left; value = value; error = error }

-- A reader of captures of either format, which keeps the header or the section, and the places of interfaces.
pub record AnyReader : Type 0 where
  pub capture : PcapfileCapture
  pub places : List PcapfileInterface
  pub left : List ℕ
  pub packet : PcapfileAnyPacket
  pub error : PcapfileError

-- The reader with this header or section, these places, these bytes, this packet and this error.
abbrev pub any_reader : PcapfileCapture → List PcapfileInterface → List ℕ → PcapfileAnyPacket → PcapfileError → AnyReader
any_reader capture places left packet error = record { capture = capture; places = places; left = left; packet = packet; error = error }

-- A call writes into a room, and sets the number of written bytes, and the error.
pub record Writer : Type 0 where
  pub room : List ℕ
  pub written : ℕ
  pub error : PcapfileError

-- The writer with this room, number of written bytes and error.
abbrev pub writer : List ℕ → ℕ → PcapfileError → Writer
writer room written error = record { room = room; written = written; error = error }

-- A writer of blocks, which keeps the section.
pub record BlockWriter : Type 0 where
  pub section : PcapfileSection
  pub room : List ℕ
  pub written : ℕ
  pub error : PcapfileError

-- The writer with this section, room, number of written bytes and error.
abbrev pub block_writer : PcapfileSection → List ℕ → ℕ → PcapfileError → BlockWriter
block_writer section room written error = record { section = section; room = room; written = written; error = error }

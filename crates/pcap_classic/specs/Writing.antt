-- The results of calls that write.
use Rattle.std.specs.Prelude.{◌≡◌, ℕ, List, Bool, true, false, IsTrue, Option, Result, Ok, Err}
use Rattle.std.specs.Io.KnownBytes.{Appends}
use Rattle.pcap_core.specs.declared.errors.PcapError.{PcapError}
use Rattle.pcap_core.specs.declared.errors.PcapError.TheVariants.{IoError, InvalidField, WriterFailed}
use Rattle.pcap_classic.specs.declared.pcap.header.PcapHeader.{PcapHeader}
use Rattle.pcap_classic.specs.declared.pcap.writer.PcapWriter.{PcapWriter}
use Rattle.pcap_core.specs.declared.rules.Rule.TheVariants.{CaptureMagic}
use Rattle.pcap_core.specs.Faults.{rule_message}
use Rattle.pcap_classic.specs.Magic.{is_magic}
use Rattle.pcap_classic.specs.PacketText.{Captured}
use Rattle.pcap_classic.specs.Written.{written_header, written_under}
use Rattle.pcap_items.specs.Writing.{AppendsPart}

-- The wrapped stream of a writer.
abbrev pub stream_of : {W : Type 0} → PcapWriter W → W
stream_of w = w.inner

-- A write to the wrapped stream failed.
abbrev pub has_failed : {W : Type 0} → PcapWriter W → Bool
has_failed w = w.has_failed

-- A capture with this header can be written: its magic number is valid.
abbrev pub IsWritable : PcapHeader → Type 0
IsWritable header = IsTrue (is_magic header.magic_number)

-- The message says that the header's magic number is none of the four, which is true.
abbrev pub RefusesMagic : PcapHeader → List ℕ → Type 0
RefusesMagic header message = (is_magic header.magic_number ≡ false) × (message ≡ rule_message CaptureMagic)

-- The result of making a writer: the header's text was written, its magic number is refused, or a write failed.
abbrev pub OpensWriter : {W : Type 0} → (W → Option (List ℕ)) → PcapHeader → W → Result (PcapWriter W) PcapError → Type 0
OpensWriter contents header writer (Ok made) =
    IsWritable header × (made.header ≡ header) × (has_failed made ≡ false) × Appends (contents writer) (contents (stream_of made)) (written_header header)
OpensWriter contents header writer (Err (InvalidField message)) = RefusesMagic header message.now
OpensWriter contents header writer (Err (IoError e)) = IsWritable header
OpensWriter contents header writer (Err _) = ⊥

-- The result of writing a packet. If an earlier write failed, nothing changes. Else if the magic number is refused, nothing changes.
-- Else the packet was written whole, or a write failed after a beginning of it.
abbrev pub WritesPacket : {W : Type 0} → (W → Option (List ℕ)) → PcapWriter W → PcapWriter W → Captured → Result (Unit {0}) PcapError → Type 0
WritesPacket contents old new packet (Err WriterFailed) = (has_failed old ≡ true) × (new ≡ old)
WritesPacket contents old new packet (Err (InvalidField message)) = (has_failed old ≡ false) × RefusesMagic old.header message.now × (new ≡ old)
WritesPacket contents old new packet (Ok u) =
    (has_failed old ≡ false) × IsWritable old.header × (has_failed new ≡ false)
    × Appends (contents (stream_of old)) (contents (stream_of new)) (written_under old.header packet)
WritesPacket contents old new packet (Err (IoError e)) =
    (has_failed old ≡ false) × IsWritable old.header × (has_failed new ≡ true)
    × AppendsPart (contents (stream_of old)) (contents (stream_of new)) (written_under old.header packet)
WritesPacket contents old new packet (Err _) = ⊥

-- The state of a reader that its caller can observe.
use Rattle.std.specs.Prelude.{⊤, ◌≡◌, ◌⊎◌, ℕ, List, [], drop, Bool, false, Option, None, Some, Result, Ok, Err}
use Rattle.pcap_core.specs.declared.errors.PcapError.{PcapError}
use Rattle.pcap_classic.specs.declared.pcap.packet.PacketHeader.{PacketHeader}
use Rattle.pcap_classic.specs.declared.pcap.reader.PcapReader.{PcapReader}
use Rattle.pcap_core.specs.Errors.{IsIo}
use Rattle.pcap_core.specs.Faults.{Shows}
use Rattle.pcap_items.specs.Fill.{held_of, stream_of as source_of, has_failed as source_failed}
use Rattle.pcap_classic.specs.HeaderText.{HeaderSays}
use Rattle.pcap_classic.specs.PacketText.{Captured}
use Rattle.pcap_items.specs.Reading.{IsFaultOf, Takes}

-- The wrapped stream of a reader.
abbrev pub stream_of : {T : Type 0} → PcapReader T → T
stream_of reader = source_of reader.fill

-- A read of the wrapped stream failed.
abbrev pub has_failed : {T : Type 0} → PcapReader T → Bool
has_failed reader = source_failed reader.fill

-- The reader has returned an error.
abbrev pub is_done : {T : Type 0} → PcapReader T → Bool
is_done reader = reader.is_done

-- The data that a reader lends: the bytes after the header of the packet that it holds.
abbrev pub data_of : {T : Type 0} → PcapReader T → List ℕ
data_of reader = drop 16 (held_of reader.fill)

-- The packet of this header and the data that a reader lends.
abbrev pub lent_packet : {T : Type 0} → PcapReader T → PacketHeader → Captured
lent_packet reader head = record { header = head; bytes = data_of reader }

-- If a call returned no header, the reader lends no data.
abbrev pub LetsGo : Option (Result PacketHeader PcapError) → List ℕ → Type 0
LetsGo (Some (Ok head)) lent = ⊤
LetsGo (Some (Err e)) lent = lent ≡ []
LetsGo None lent = lent ≡ []

-- The result of making a reader: it took the header's text and no more, and nothing failed; or a read failed, the stream ended early,
-- or the header is refused.
abbrev pub OpensReader : {T : Type 0} → (T → Option (List ℕ)) → T → Result (PcapReader T) PcapError → Type 0
OpensReader remaining stream (Ok reader) =
    (is_done reader ≡ false)
    × (has_failed reader ≡ false) × Takes HeaderSays (remaining stream) (remaining (stream_of reader)) reader.header × (data_of reader ≡ [])
OpensReader remaining stream (Err e) = IsIo e ⊎ Shows (IsFaultOf HeaderSays (remaining stream)) e

-- The observable state of a lenient reader of packets.
use Rattle.std.specs.Prelude.{◌≡◌, ◌⊎◌, ℕ, List, [], drop, Bool, false, Option, None, Some, Result, Ok, Err}
use Rattle.std.specs.Io.KnownBytes.{Consumes}
use Rattle.pcap_core.specs.declared.errors.PcapError.{PcapError}
use Rattle.pcap_core.specs.Answer.{Verdict}
use Rattle.pcap_core.specs.Errors.{IsIo}
use Rattle.pcap_core.specs.Faults.{Shows}
use Rattle.pcap_items.specs.Fill.{held_of as held_in, stream_of as source_of, has_failed as source_failed}
use Rattle.pcap_items.specs.Lent.{TakesText}
use Rattle.pcap_items.specs.Reading.{IsFaultOf, Takes}
use Rattle.pcap_classic.specs.declared.pcap.header.PcapHeader.{PcapHeader}
use Rattle.pcap_classic.specs.HeaderText.{HeaderSays}
use Rattle.pcap_classic.specs.Parser.{header_of}
use Rattle.pcap_tolerant.specs.declared.as_is.HeadAsIs.{HeadAsIs}
use Rattle.pcap_tolerant.specs.declared.reader.ReaderAsIs.{ReaderAsIs}
use Rattle.pcap_tolerant.specs.AsIs.{AsIs, packet_with}

-- The stream that a reader wraps.
abbrev pub stream_of : {T : Type 0} → ReaderAsIs T → T
stream_of reader = source_of reader.fill

-- The header of the reader's capture.
abbrev pub header_read : {T : Type 0} → ReaderAsIs T → PcapHeader
header_read reader = header_of reader.parser

-- The caller's limit.
abbrev pub limit_of : {T : Type 0} → ReaderAsIs T → ℕ
limit_of reader = reader.limit

-- A read of the stream failed.
abbrev pub has_failed : {T : Type 0} → ReaderAsIs T → Bool
has_failed reader = source_failed reader.fill

-- The reader has returned an error.
abbrev pub is_done : {T : Type 0} → ReaderAsIs T → Bool
is_done reader = reader.is_done

-- The bytes that the reader holds.
abbrev pub held_of : {T : Type 0} → ReaderAsIs T → List ℕ
held_of reader = held_in reader.fill

-- The data that the reader lends: the held bytes after the head of the packet.
abbrev pub data_of : {T : Type 0} → ReaderAsIs T → List ℕ
data_of reader = drop 16 (held_of reader)

-- The packet with this head and the data that a reader lends.
abbrev pub lent_packet : {T : Type 0} → ReaderAsIs T → HeadAsIs → AsIs
lent_packet reader head = packet_with head (data_of reader)

-- The held bytes after a call: exactly the packet's text, head and data, which was taken; after an error, all bytes that the call took;
-- or none, if the stream ended.
abbrev pub HoldsGiven : {X V : Type 0} → (List ℕ → Verdict V → Type 0)
    → (X → V) → Option (List ℕ) → Option (List ℕ) → List ℕ → Option (Result X PcapError) → Type 0
HoldsGiven IsSaid view before after text (Some (Ok x)) = TakesText IsSaid before after text (view x)
HoldsGiven IsSaid view before after text (Some (Err e)) = Consumes before after text
HoldsGiven IsSaid view before after text None = text ≡ []

-- The result of opening a reader: exactly the header's text was taken and nothing failed; or a read failed, the stream ended early, or
-- the header is refused.
abbrev pub OpensAsIs : {T : Type 0} → (T → Option (List ℕ)) → ℕ → T → Result (ReaderAsIs T) PcapError → Type 0
OpensAsIs remaining limit stream (Ok reader) =
    (is_done reader ≡ false) × (has_failed reader ≡ false) × (limit_of reader ≡ limit) × Takes HeaderSays (remaining stream) (remaining (stream_of reader)) (header_read reader) × (held_of reader ≡ [])
OpensAsIs remaining limit stream (Err e) = IsIo e ⊎ Shows (IsFaultOf HeaderSays (remaining stream)) e

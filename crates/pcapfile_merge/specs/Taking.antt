-- The packets that are taken from a reader of a classic capture.
use Rattle.std.specs.Prelude.{◌≡◌, ◌≤◌, ℕ, List, length, Bool, true, false, Option, None, Some}
use Rattle.std.specs.Io.KnownBytes.{Keeps, IsAtEnd}
use Rattle.pcap_core.specs.declared.errors.PcapError.{PcapError}
use Rattle.pcap_core.specs.Answer.{Verdict}
use Rattle.pcap_items.specs.Reading.{HasCause, Takes, TakesAsked}
use Rattle.pcap_classic.specs.declared.pcap.header.PcapHeader.{PcapHeader}
use Rattle.pcap_classic.specs.declared.pcap.packet.PacketHeader.{PacketHeader}
use Rattle.pcap_classic.specs.Packets.{reader_format}
use Rattle.pcap_classic.specs.PacketText.{Captured, packet_limit}
use Rattle.pcapfile_merge.specs.declared.buffered.BufferedPackets.{BufferedPackets}
use Rattle.pcapfile_merge.specs.declared.packet.Pending.{Pending}
use Rattle.pcapfile_merge.specs.declared.reader.Taken.{Taken}
use Rattle.pcapfile_merge.specs.Buffered.{data_of, has_failed, header_of, is_done, left_of}
use Rattle.pcapfile_merge.specs.Packets.{Packet, packet_of, plain_text}

-- The text of the packet with these facts: these bytes if its block is made, or else the block of the packet with these bytes.
abbrev pub text_by : Bool → Pending → List ℕ → List ℕ
text_by true pending bytes = bytes
text_by false pending bytes = plain_text pending.number pending.units pending.original_len bytes

-- The packet with these facts, and with its bytes or the text of its block.
abbrev pub packet_in : List ℕ → Pending → Packet
packet_in bytes pending = record { time = pending.time; text = text_by pending.is_made pending bytes; is_interface = pending.is_interface; left_out = pending.left_out }

-- These are the facts about the packet with this header, whose interface has this number.
abbrev pub IsOf : ℕ → PacketHeader → Pending → Type 0
IsOf number header pending = (bytes : List ℕ) → packet_in bytes pending ≡ packet_of number (record { header = header; bytes = bytes })

-- No other item follows: the stream ends there, or the rest is refused with this error.
abbrev pub EndsThere : {V : Type 0} → (List ℕ → Verdict V → Type 0) → Option (List ℕ) → Option (List ℕ) → Bool → Option PcapError → Type 0
EndsThere IsSaid left now failed None = (failed ≡ false) × Keeps left now × IsAtEnd left
EndsThere IsSaid left now failed (Some e) = HasCause IsSaid left failed e × TakesAsked IsSaid left now

-- Given the header and what is left, a reader took a packet and lends its bytes, or took none for the stated reason.
abbrev pub TakesPending : {R : Type 0} → (R → Option (List ℕ)) → ℕ → PcapHeader → Option (List ℕ) → BufferedPackets R → Option Pending → Option PcapError → Type 0
TakesPending remaining number header left new (Some pending) fault =
    (fault ≡ None) × (is_done new ≡ false) × (length (data_of new) ≤ 4294967260)
    × (captured : Captured) × (packet_in (data_of new) pending ≡ packet_of number captured) × Takes ((reader_format packet_limit header).says tt) left (left_of remaining new) captured
TakesPending remaining number header left new None fault = EndsThere ((reader_format packet_limit header).says tt) left (left_of remaining new) (has_failed new) fault

-- TakesPacket remaining number old new taken: the same for a call.
abbrev pub TakesPacket : {R : Type 0} → (R → Option (List ℕ)) → ℕ → BufferedPackets R → BufferedPackets R → Taken → Type 0
TakesPacket remaining number old new taken = (header_of new ≡ header_of old) × TakesPending remaining number (header_of old) (left_of remaining old) new taken.next taken.fault

-- The changes of the packets that a cut writes.
use Rattle.std.specs.Prelude.{◌&&◌, ℕ, List, min, take, Bool, false, Option, None, Some, is_none, if◌then◌else◌}
use Rattle.std.specs.List.{flat_map}
use Rattle.pcap_classic.specs.declared.common.TsResolution.{TsResolution}
use Rattle.pcap_classic.specs.declared.common.TsResolution.TheVariants.{NanoSecond}
use Rattle.pcap_classic.specs.declared.pcap.header.PcapHeader.{PcapHeader}
use Rattle.pcap_classic.specs.declared.pcap.packet.PacketHeader.{PacketHeader}
use Rattle.pcap_classic.specs.Magic.{resolution_of}
use Rattle.pcap_classic.specs.PacketText.{Captured}
use Rattle.pcap_classic.specs.Written.{cut, written_under}
use Rattle.pcap_classic.specs.StatedPackets.{held_packet}
use Rattle.pcapfile_cut.specs.declared.changing.Changes.{Changes}
use Rattle.pcapfile_cut.specs.declared.moving.Shift.{Shift}
use Rattle.pcapfile_cut.specs.declared.changing.Found.{Found}
use Rattle.pcapfile_cut.specs.declared.opening.Opening.{Opening}
use Rattle.pcapfile_cut.specs.declared.wanted.Wanted.{Wanted}
use Rattle.pcapfile_cut.specs.declared.wanted.Wanted.TheVariants.{Selected}
use Rattle.pcapfile_cut.specs.Choice.{Stored}
use Rattle.pcapfile_cut.specs.Moves.{moved}
use Rattle.pcapfile_cut.specs.Openings.{bytes_in, header_in}

-- The header of a packet with at most n of its bytes. Its time and its original length stay.
abbrev pub shortened_head : ℕ → PacketHeader → PacketHeader
shortened_head n head = record { ts_sec = head.ts_sec; ts_nsec = head.ts_nsec; incl_len = min n head.incl_len; orig_len = head.orig_len }

-- The packet with at most n of its bytes, the first ones. Its time and its original length stay.
abbrev pub shortened : ℕ → Captured → Captured
shortened n packet = record { header = shortened_head n packet.header; bytes = take n packet.bytes }

-- The header of a packet with at most so many bytes, if a number is given.
abbrev pub head_within : Option ℕ → PacketHeader → PacketHeader
head_within None head = head
head_within (Some n) head = shortened_head n head

-- At most so many of the first bytes, if a number is given, or else all.
abbrev pub bytes_within : Option ℕ → List ℕ → List ℕ
bytes_within None bytes = bytes
bytes_within (Some n) bytes = take n bytes

-- The header with the moved time, or as it is if no packet can have that time.
abbrev pub moved_or_same : PacketHeader → Option PacketHeader → PacketHeader
moved_or_same head None = head
moved_or_same head (Some new) = new

-- The header with its time moved, if that is asked for and a packet of this resolution can have the new time.
abbrev pub head_behind : TsResolution → Option Shift → PacketHeader → PacketHeader
head_behind resolution None head = head
head_behind resolution (Some shift) head = moved_or_same head (moved resolution shift head)

-- The resolution of the times to which packets of a capture of this resolution are moved: nanoseconds if the packets get that resolution.
abbrev pub moved_in : Option TsResolution → TsResolution → TsResolution
moved_in (Some NanoSecond) resolution = NanoSecond
moved_in _ resolution = resolution

-- The header of a packet after these changes, in a capture of this resolution.
abbrev pub changed_head : TsResolution → Changes → PacketHeader → PacketHeader
changed_head resolution changes head = head_within changes.snaplen (head_behind (moved_in changes.resolution resolution) changes.shift head)

-- The packet after these changes, in a capture of this resolution. Its time is not rounded yet.
abbrev pub changed : TsResolution → Changes → Captured → Captured
changed resolution changes packet = record { header = changed_head resolution changes packet.header; bytes = bytes_within changes.snaplen packet.bytes }

-- The packet with its time rounded down to a whole number of units of this resolution, if one is given.
abbrev pub rounded : Option TsResolution → Captured → Captured
rounded None packet = packet
rounded (Some resolution) packet = cut resolution packet

-- A shift is asked for, and the packet keeps its time, because no packet of this resolution can have the new time.
abbrev pub keeps_time : TsResolution → Option Shift → PacketHeader → Bool
keeps_time resolution None head = false
keeps_time resolution (Some shift) head = is_none (moved resolution shift head)

-- Nothing is changed.
abbrev pub is_nothing : Changes → Bool
is_nothing changes = is_none changes.snaplen && is_none changes.shift && is_none changes.resolution

-- No changes.
abbrev pub no_changes : Changes
no_changes = record { snaplen = None; shift = None; resolution = None }

-- The changes of the packets that a cut writes.
abbrev pub changes_of : Wanted → Changes
changes_of (Selected selection) = selection.now.changes
changes_of _ = no_changes

-- The header of a capture after these changes.
abbrev pub header_after : PcapHeader → Changes → PcapHeader
header_after header changes = header_in changes.resolution header

-- The bytes of a packet that was read under a header after these changes: its own bytes if nothing is changed.
abbrev pub text_after : PcapHeader → Changes → Stored → List ℕ
text_after header changes stored =
    if is_nothing changes then stored.text else written_under (header_after header changes) (changed (resolution_of header.magic_number) changes stored.packet)

-- The bytes that a cut writes before the packets.
abbrev pub opening_for : Wanted → Opening → List ℕ
opening_for wanted opening = bytes_in (changes_of wanted).resolution opening

-- The bytes that a cut writes for a wanted packet under a header.
abbrev pub written_for : PcapHeader → Wanted → Stored → List ℕ
written_for header wanted stored = text_after header (changes_of wanted) stored

-- The bytes that a cut writes for these packets, concatenated.
abbrev pub written : PcapHeader → Wanted → List Stored → List ℕ
written header wanted packets = flat_map (λ (stored : Stored). written_for header wanted stored) packets

-- The cut leaves this packet's time as it is, because no packet of the capture can have the new time.
abbrev pub is_unmoved : PcapHeader → Wanted → Captured → Bool
is_unmoved header wanted packet =
    keeps_time (moved_in (changes_of wanted).resolution (resolution_of header.magic_number)) (changes_of wanted).shift packet.header

-- The packet that was found, with its bytes.
abbrev pub stored_of : Found → Stored
stored_of found = record { packet = held_packet found.text.now found.head; text = found.text.now }

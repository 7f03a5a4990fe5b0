-- What the call returns that reads many packets of a classic capture in pieces.
use Rattle.std.specs.Prelude.{◌≡◌, ◌<◌, ◌≤◌, ◌⊎◌, ℕ, ℤ, pos, List, length, map, take, drop, false}
use Rattle.pcap_core.specs.Answer.{number_in}
use Rattle.pcap_items.specs.Format.{Texts}
use Rattle.pcap_classic.specs.HeaderText.{HeaderSays}
use Rattle.pcap_classic.specs.Magic.{is_magic, order_of, resolution_of}
use Rattle.pcap_classic.specs.Packets.{packet_format}
use Rattle.pcap_classic.specs.PacketText.{packet_limit}
use Rattle.pcapfile_values.specs.declared.shown.PcapfilePacket.{PcapfilePacket}
use Rattle.pcapfile_values.specs.Refusals.{TellsRefusal}
use Rattle.pcapfile_values.specs.Shown.{captured}
use Rattle.pcapfile_c.specs.declared.push.PcapfilePush.{PcapfilePush}
use Rattle.pcapfile_c.specs.Calls.{PacketsSaid}
use Rattle.pcapfile_c.specs.Push.{LiesWithin, LiesOutside, Opened, held_reader}
use Rattle.pcapfile_c.specs.Readers.{HeaderReader, Reader, reader}

-- This many packets after a header of this magic number are at the front of the bytes, before what is left, and in the first places. All
-- other places are unchanged. Status 0: every place is filled. Another status: fewer are, and what is left is refused.
pub record FillsPlaces (magic : ℕ) (old new : Reader (List ℕ) (List PcapfilePacket)) (taken : ℕ) (status : ℤ) : Type 0 where
  pub within : taken ≤ length new.value
  pub texts : Texts (packet_format packet_limit (number_in (order_of magic)) (resolution_of magic)) tt (map captured (take taken new.value)) old.left new.left
  pub others : drop taken new.value ≡ drop taken old.value
  pub ends : ((status ≡ pos 0) × (new.error ≡ old.error) × (taken ≡ length new.value))
      ⊎ ((taken < length new.value) × TellsRefusal (PacketsSaid magic new.left) new.error status)

-- No packet was read, and all places are unchanged.
abbrev pub FillsNone : {P : Type 0} → List P → List P → ℕ → Type 0
FillsNone old packets taken = (taken ≡ 0) × (packets ≡ old)

-- The packets at the front of the bytes, after the header, which is read first if there is none yet; or the header is refused.
abbrev pub TakesFrontPackets : HeaderReader (List PcapfilePacket) → HeaderReader (List PcapfilePacket) → ℕ → ℤ → Type 0
TakesFrontPackets old new taken status =
    ((after : List ℕ) × Opened old.header new.header old.left after
    × FillsPlaces new.header.magic_number (reader after old.value old.error) (reader new.left new.value new.error) taken status)
    ⊎ (FillsNone old.value new.value taken × (is_magic old.header.magic_number ≡ false) × (new.header ≡ old.header) × (new.left ≡ old.left)
    × TellsRefusal (HeaderSays old.left) new.error status)

-- The packets at the front of the held bytes, whose rest stays held. Status 10: the held bytes are outside of the room, and nothing
-- changed.
abbrev pub TakesNextPackets : List ℕ → Reader PcapfilePush (List PcapfilePacket) → Reader PcapfilePush (List PcapfilePacket) → ℕ → ℤ → Type 0
TakesNextPackets room old new taken status =
    (LiesWithin old.left room × LiesWithin new.left room × (new.left.end ≡ old.left.end)
    × TakesFrontPackets (held_reader room old) (held_reader room new) taken status)
    ⊎ ((status ≡ pos 10) × (new.error ≡ old.error) × (new.left ≡ old.left) × FillsNone old.value new.value taken × LiesOutside old.left room)

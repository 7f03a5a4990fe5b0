-- What sequences of calls do that read a classic capture in pieces.
use Rattle.std.specs.Prelude.{◌≡◌, ◌≢◌, ⊤, ℕ, ℤ, pos, List, [], ◌∷◌, map, take, false, IsTrue}
use Rattle.pcap_classic.specs.Magic.{is_magic}
use Rattle.pcap_classic.specs.PacketText.{Captured}
use Rattle.pcapfile_values.specs.declared.errors.PcapfileError.{PcapfileError}
use Rattle.pcapfile_values.specs.declared.shown.PcapfilePacket.{PcapfilePacket}
use Rattle.pcapfile_values.specs.Shown.{captured}
use Rattle.pcapfile_c.specs.declared.push.PcapfilePush.{PcapfilePush}
use Rattle.pcapfile_c.specs.Push.{TakesNext}
use Rattle.pcapfile_c.specs.PushBatches.{TakesNextPackets}
use Rattle.pcapfile_c.specs.Readers.{reader}
use Rattle.pcapfile_c.specs.RoomCalls.{Ended, under_status}

-- One call that reads packets, by its status: it reads one packet and returns it under 0, or reads many and returns those.
pub data TakingCall (before push : PcapfilePush) (room : List ℕ) (status : ℤ) : List Captured → Type 0 where
  one : (old packet : PcapfilePacket) (error told : PcapfileError) → TakesNext room (reader before old error) (reader push packet told) status
      → TakingCall before push room status (under_status status (captured packet ∷ []))
  many : (old packets : List PcapfilePacket) (taken : ℕ) (error told : PcapfileError) → TakesNextPackets room (reader before old error) (reader push packets told) taken status
      → TakingCall before push room status (map captured (take taken packets))

-- A call that reads packets, with nothing kept beside the room.
abbrev pub GivesPackets : ℤ → PcapfilePush → Unit {0} → List ℕ → PcapfilePush → Unit {0} → List Captured → Type 0
GivesPackets status before kept room push next given = TakingCall before push room status given

-- Nothing is kept beside the room between two calls.
abbrev pub KeepsNothing : Unit {0} → Unit {0} → Type 0
KeepsNothing kept next = ⊤

-- HaveEnded calls push room: after these calls, from nothing on, the last call reported that no packet follows the header and the
-- returned packets.
abbrev pub HaveEnded : List (List ℕ × List Captured) → PcapfilePush → List ℕ → Type 0
HaveEnded calls push room =
    Ended GivesPackets KeepsNothing (λ start kept. is_magic start.header.magic_number ≡ false) (λ status push. (status ≢ pos 10) × IsTrue (is_magic push.header.magic_number)) calls push tt room

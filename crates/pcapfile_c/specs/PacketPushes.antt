-- What sequences of calls do that read packets of a PcapNg capture in pieces.
use Rattle.std.specs.Prelude.{◌≡◌, ◌≢◌, ◌⊎◌, ℕ, ℤ, pos, List, [], ◌∷◌, take}
use Rattle.pcap_ng.specs.State.{State}
use Rattle.pcapfile_values.specs.declared.any_packets.PcapfileAnyPacket.{PcapfileAnyPacket}
use Rattle.pcapfile_values.specs.declared.blocks.PcapfileSection.{PcapfileSection}
use Rattle.pcapfile_values.specs.declared.bodies.PcapfileInterface.{PcapfileInterface}
use Rattle.pcapfile_values.specs.declared.errors.PcapfileError.{PcapfileError}
use Rattle.pcapfile_c.specs.declared.push.PcapfilePush.{PcapfilePush}
use Rattle.pcapfile_c.specs.PushNgBatches.{TakesNextNgPackets}
use Rattle.pcapfile_c.specs.PushPackets.{ShowsInForce, TakesNextPacket}
use Rattle.pcapfile_c.specs.Readers.{packet_reader}
use Rattle.pcapfile_c.specs.RoomCalls.{Ended, under_status}

-- What the reader keeps beside the room: the section, and the places of its interfaces.
abbrev pub InForceShown : Type 0
InForceShown = PcapfileSection × List PcapfileInterface

-- One call that reads a packet, with these values behind its pointers.
pub record PacketCall (before push : PcapfilePush) (kept next : InForceShown) (room : List ℕ) (packet : PcapfileAnyPacket) (told : PcapfileError) (status : ℤ) : Type 0 where
  pub old : PcapfileAnyPacket
  pub error : PcapfileError
  pub takes : (q : State) → ShowsInForce kept.0 kept.1 q
      → TakesNextPacket q room (packet_reader kept.0 kept.1 before old error) (packet_reader next.0 next.1 push packet told) status

-- One call that reads many packets, with these values behind its pointers.
pub record PacketsCall (before push : PcapfilePush) (kept next : InForceShown) (room : List ℕ) (packets : List PcapfileAnyPacket) (taken : ℕ) (told : PcapfileError) (status : ℤ) : Type 0 where
  pub old : List PcapfileAnyPacket
  pub error : PcapfileError
  pub takes : (q : State) → ShowsInForce kept.0 kept.1 q
      → TakesNextNgPackets q room (packet_reader kept.0 kept.1 before old error) (packet_reader next.0 next.1 push packets told) taken status

-- A call of either kind with this status: the one returns its packet under 0 and otherwise nothing, and the other those that it read.
abbrev pub GivesUnder : ℤ → PcapfilePush → InForceShown → List ℕ → PcapfilePush → InForceShown → List PcapfileAnyPacket → Type 0
GivesUnder status before kept room push next given =
    ((packet : PcapfileAnyPacket) × (told : PcapfileError) × PacketCall before push kept next room packet told status × (given ≡ under_status status (packet ∷ [])))
    ⊎ ((packets : List PcapfileAnyPacket) × (taken : ℕ) × (told : PcapfileError) × PacketsCall before push kept next room packets taken told status × (given ≡ take taken packets))

-- Between two calls the section stays, and its interfaces keep their places. There may be more places than before.
abbrev pub KeepsInForce : InForceShown → InForceShown → Type 0
KeepsInForce kept next = (next.0 ≡ kept.0) × (take kept.0.interfaces next.1 ≡ take kept.0.interfaces kept.1)

-- PacketsHaveEnded calls push room: after these calls, from nothing on, the last call reported that no packet follows the returned ones.
abbrev pub PacketsHaveEnded : List (List ℕ × List PcapfileAnyPacket) → PcapfilePush → List ℕ → Type 0
PacketsHaveEnded calls push room =
    (kept : InForceShown) × Ended GivesUnder KeepsInForce (λ start kept. kept.0.magic_number ≡ 0) (λ status push. (status ≢ pos 6) × (status ≢ pos 10) × (status ≢ pos 11)) calls push kept room

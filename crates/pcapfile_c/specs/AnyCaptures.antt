-- What the call returns that reads a packet of a capture of either format in memory.
use Rattle.std.specs.Prelude.{◌≡◌, ◌≢◌, ◌<◌, ◌⊎◌, ℕ, ℤ, pos, List, [], ◌∷◌, length, false, IsTrue, ◌==◌}
use Rattle.std.specs.List.{starts_with}
use Rattle.pcap_core.specs.declared.rules.Rule.TheVariants.{SectionMagic}
use Rattle.pcap_classic.specs.HeaderText.{HeaderSays}
use Rattle.pcap_classic.specs.Magic.{is_magic}
use Rattle.pcap_classic.specs.PacketText.{Captured}
use Rattle.pcap_ng.specs.State.{State}
use Rattle.pcapfile_values.specs.declared.any_packets.PcapfileAnyPacket.{PcapfileAnyPacket}
use Rattle.pcapfile_values.specs.declared.errors.PcapfileError.{PcapfileError}
use Rattle.pcapfile_values.specs.AnyPackets.{ShowsCaptured}
use Rattle.pcapfile_values.specs.Refusals.{ShowsRule, TellsRefusal}
use Rattle.pcapfile_c.specs.declared.any.PcapfileCapture.{PcapfileCapture}
use Rattle.pcapfile_c.specs.Calls.{PacketsSaid}
use Rattle.pcapfile_c.specs.Push.{NextText, Opened}
use Rattle.pcapfile_c.specs.PushPackets.{OneReader, TakesFrontPacket}
use Rattle.pcapfile_c.specs.Readers.{AnyReader, HeaderReader, header_reader, packet_reader}

-- The capture is PcapNg: there is a section, or there is no header and the bytes begin as a section header does.
abbrev pub IsNg : PcapfileCapture → List ℕ → Type 0
IsNg capture s =
    (capture.section.magic_number ≢ 0)
    ⊎ ((IsTrue (is_magic capture.header.magic_number) → ⊥) × IsTrue (starts_with (λ a b. a == b) s (0x0A ∷ 0x0D ∷ 0x0D ∷ 0x0A ∷ [])))

-- The packet at the front of the bytes, after the header, which is read first if there is none yet. Status 0: the struct shows the packet.
-- Another status: the packet after the header is refused, or the header is; and the struct is unchanged.
abbrev pub TakesCaptured : HeaderReader PcapfileAnyPacket → HeaderReader PcapfileAnyPacket → ℤ → Type 0
TakesCaptured old new status =
    ((status ≡ pos 0) × (new.error ≡ old.error)
    × (packet : Captured) × NextText old.header new.header packet old.left new.left × ShowsCaptured new.header.link packet new.value)
    ⊎ (((new.value ≡ old.value) × Opened old.header new.header old.left new.left × TellsRefusal (PacketsSaid new.header.magic_number new.left) new.error status)
    ⊎ ((new.value ≡ old.value) × (is_magic old.header.magic_number ≡ false) × (new.header ≡ old.header) × (new.left ≡ old.left)
    × TellsRefusal (HeaderSays old.left) new.error status))

-- The section has more interfaces than there are places, and nothing changed: status 10.
pub record LacksPlaces (old new : OneReader) (status : ℤ) : Type 0 where
  pub too_few : length old.places < old.section.interfaces
  pub status_is : status ≡ pos 10
  pub error_is : new.error ≡ old.error
  pub section_is : new.section ≡ old.section
  pub places_are : new.places ≡ old.places
  pub rest_is : new.left ≡ old.left
  pub packet_is : new.value ≡ old.value

-- The packet at the front of the bytes under this state, after blocks that are no packets; or there are too few places.
abbrev pub TakesWithPlaces : State → OneReader → OneReader → ℤ → Type 0
TakesWithPlaces q old new status = TakesFrontPacket q old new status ⊎ LacksPlaces old new status

-- The magic number names no byte order, and nothing else changed; or there are too few places.
abbrev pub RefusesWithPlaces : OneReader → OneReader → ℤ → Type 0
RefusesWithPlaces old new status =
    ((status ≡ pos 3) × ShowsRule SectionMagic new.error
    × (new.section ≡ old.section) × (new.places ≡ old.places) × (new.left ≡ old.left) × (new.value ≡ old.value))
    ⊎ LacksPlaces old new status

-- A reader of any capture, as a reader of a classic capture.
abbrev pub as_headed : AnyReader → HeaderReader PcapfileAnyPacket
as_headed r = header_reader r.capture.header r.left r.packet r.error

-- A reader of any capture, as a reader of a PcapNg capture.
abbrev pub as_sectioned : AnyReader → OneReader
as_sectioned r = packet_reader r.capture.section r.places r.left r.packet r.error

-- The result for a classic capture, which has no section and no interfaces.
abbrev pub TakesHeaded : AnyReader → AnyReader → ℤ → Type 0
TakesHeaded old new status =
    (new.capture.section ≡ old.capture.section) × (new.places ≡ old.places) × TakesCaptured (as_headed old) (as_headed new) status

-- The result for a PcapNg capture, which has no header.
abbrev pub TakesSectioned : State → AnyReader → AnyReader → ℤ → Type 0
TakesSectioned q old new status = (new.capture.header ≡ old.capture.header) × TakesWithPlaces q (as_sectioned old) (as_sectioned new) status

-- The result for a PcapNg capture whose magic number names no byte order.
abbrev pub RefusesAnyPacket : AnyReader → AnyReader → ℤ → Type 0
RefusesAnyPacket old new status = (new.capture.header ≡ old.capture.header) × RefusesWithPlaces (as_sectioned old) (as_sectioned new) status

-- There are too few places, and nothing changed.
abbrev pub LeavesAnyPacket : AnyReader → AnyReader → ℤ → Type 0
LeavesAnyPacket old new status = (new.capture.header ≡ old.capture.header) × LacksPlaces (as_sectioned old) (as_sectioned new) status

-- Nothing is left of a capture that has begun: there is a section or a header.
abbrev pub HasEnded : PcapfileCapture → List ℕ → Type 0
HasEnded capture rest = (rest ≡ []) × ((capture.section.magic_number ≢ 0) ⊎ IsTrue (is_magic capture.header.magic_number))

-- The end of a capture is no error: where bytes would be missing, the status is 8 and the error is unchanged.
abbrev pub EndTells : PcapfileCapture → List ℕ → PcapfileError → (PcapfileError → ℤ → Type 0) → PcapfileError → ℤ → Type 0
EndTells capture rest error Tells told status =
    ((status ≡ pos 8) × (told ≡ error) × HasEnded capture rest × (request : PcapfileError) × Tells request (pos 1))
    ⊎ ((status ≡ pos 1 → HasEnded capture rest → ⊥) × Tells told status)

-- The same reader with another error.
abbrev pub with_error : AnyReader → PcapfileError → AnyReader
with_error r told = record r { error = told }

-- The result for a classic capture, or its end.
abbrev pub TakesAnyPacket : AnyReader → AnyReader → ℤ → Type 0
TakesAnyPacket old new = EndTells new.capture new.left old.error (λ told. TakesHeaded old (with_error new told)) new.error

-- The result for a PcapNg capture, or its end.
abbrev pub TakesAnyNgPacket : State → AnyReader → AnyReader → ℤ → Type 0
TakesAnyNgPacket q old new = EndTells new.capture new.left old.error (λ told. TakesSectioned q old (with_error new told)) new.error

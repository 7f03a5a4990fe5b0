-- What sequences of calls return that read packets of a capture of either format in memory.
use Rattle.std.specs.Prelude.{◌≡◌, ◌≢◌, ◌⊎◌, ℕ, ℤ, pos, List, [], ◌∷◌, ◌++◌, take, filter, false}
use Rattle.std.specs.List.{AllZip}
use Rattle.pcap_core.specs.Answer.{Verdict}
use Rattle.pcap_items.specs.Format.{Front, Texts, state_after}
use Rattle.pcap_core.specs.Link.{link_number}
use Rattle.pcap_classic.specs.declared.pcap.header.PcapHeader.{PcapHeader}
use Rattle.pcap_classic.specs.Front.{CaptureFront}
use Rattle.pcap_classic.specs.HeaderText.{HeaderSays, HeaderText}
use Rattle.pcap_classic.specs.Magic.{is_magic}
use Rattle.pcap_classic.specs.Packets.{format_under}
use Rattle.pcap_classic.specs.PacketText.{Captured, packet_limit}
use Rattle.pcap_ng.specs.Blocks.{Item}
use Rattle.pcap_ng.specs.State.{State, opening}
use Rattle.pcapfile_values.specs.declared.any_packets.PcapfileAnyPacket.{PcapfileAnyPacket}
use Rattle.pcapfile_values.specs.declared.bodies.PcapfileInterface.{PcapfileInterface}
use Rattle.pcapfile_values.specs.declared.errors.PcapfileError.{PcapfileError}
use Rattle.pcapfile_values.specs.declared.shown.PcapfileHeader.{PcapfileHeader}
use Rattle.pcapfile_values.specs.AnyPackets.{ShowsCaptured}
use Rattle.pcapfile_values.specs.Refusals.{TellsRefusal}
use Rattle.pcapfile_values.specs.Shown.{shown_header}
use Rattle.pcapfile_c.specs.declared.any.PcapfileCapture.{PcapfileCapture}
use Rattle.pcapfile_c.specs.AnyCaptures.{IsNg, TakesAnyNgPacket, TakesAnyPacket}
use Rattle.pcapfile_c.specs.Calls.{PacketsSaid}
use Rattle.pcapfile_c.specs.PushPackets.{ReadSays, ShowsInForce}
use Rattle.pcapfile_c.specs.Readers.{any_reader}
use Rattle.pcapfile_c.specs.RoomCalls.{under_status}
use Rattle.pcapfile_c.specs.ReadBlocks.{ShowsThere, each_under, is_packet_there, read_format}

-- What the reader keeps between two calls: the header or section, and the places of interfaces.
abbrev pub Kept : Type 0
Kept = PcapfileCapture × List PcapfileInterface

-- The reader has neither a section nor a header yet.
abbrev pub IsFresh : PcapfileCapture → Type 0
IsFresh capture = (capture.section.magic_number ≡ 0) × (is_magic capture.header.magic_number ≡ false)

-- The header or section stays, and its interfaces keep their places. There may be more places than before.
abbrev pub KeepsCapture : Kept → Kept → Type 0
KeepsCapture kept next = (next.0 ≡ kept.0) × (take kept.0.section.interfaces next.1 ≡ take kept.0.section.interfaces kept.1)

-- One call: it begins with the bytes `s`, leaves `rest`, and sets the values behind its other pointers.
pub record AnyCall (kept next : Kept) (s rest : List ℕ) (shown : PcapfileAnyPacket) (told : PcapfileError) (status : ℤ) : Type 0 where
  pub old : PcapfileAnyPacket
  pub error : PcapfileError
  pub packets : (IsNg kept.0 s → ⊥) → TakesAnyPacket (any_reader kept.0 kept.1 s old error) (any_reader next.0 next.1 rest shown told) status
  pub blocks : (q : State) → IsNg kept.0 s → ShowsInForce kept.0.section kept.1 q
      → TakesAnyNgPacket q (any_reader kept.0 kept.1 s old error) (any_reader next.0 next.1 rest shown told) status

-- AnyCalls start s kept rest given: calls on the bytes `s`, one after the other, left `rest` and returned these packets. Each call
-- returned one under status 0, and otherwise none. Between two calls, the program may pass more places.
pub data AnyCalls (start : Kept) (s : List ℕ) : Kept → List ℕ → List PcapfileAnyPacket → Type 0 where
  none : AnyCalls start s start s []
  call : (kept next : Kept) (left rest : List ℕ) (given : List PcapfileAnyPacket) (shown : PcapfileAnyPacket) (told : PcapfileError) (status : ℤ) → AnyCalls start s kept left given
      → AnyCall kept next left rest shown told status → AnyCalls start s next rest (given ++ under_status status (shown ∷ []))
  between : (kept next : Kept) (rest : List ℕ) (given : List PcapfileAnyPacket) → AnyCalls start s kept rest given → KeepsCapture kept next → AnyCalls start s next rest given

-- The structs show these packets, after a header of this link type.
abbrev pub ShowAll : ℕ → List Captured → List PcapfileAnyPacket → Type 0
ShowAll link packets given = AllZip (ShowsCaptured link) packets given

-- PacketsTaken header s rest given: `s` is the text of the header, those of the packets that were returned, and `rest`.
pub record PacketsTaken (header : PcapfileHeader) (s rest : List ℕ) (given : List PcapfileAnyPacket) : Type 0 where
  pub found : PcapHeader
  pub in_force : header ≡ shown_header found
  pub packets : List Captured
  pub after : List ℕ
  pub header_text : HeaderText found s after
  pub texts : Texts (format_under packet_limit found) tt packets after rest
  pub shows : ShowAll (link_number found.datalink) packets given

-- There is no header yet, all bytes are left, and no packet was returned.
abbrev pub NothingTaken : PcapfileHeader → List ℕ → List ℕ → List PcapfileAnyPacket → Type 0
NothingTaken header s rest given = (is_magic header.magic_number ≡ false) × (rest ≡ s) × (given ≡ [])

-- NgPacketsTaken kept s rest given: `s` is the texts of blocks and `rest`. Their packets were returned, each with its interface, and the
-- structs show the state after these blocks.
pub record NgPacketsTaken (kept : Kept) (s rest : List ℕ) (given : List PcapfileAnyPacket) : Type 0 where
  pub items : List Item
  pub texts : Texts read_format opening items s rest
  pub in_force : ShowsInForce kept.0.section kept.1 (state_after read_format opening items)
  pub shows : AllZip ShowsThere (filter is_packet_there (each_under opening items)) given

-- No packet was returned, and the reason is neither memory nor missing or invalid places.
abbrev pub CameToEnd : ℤ → Type 0
CameToEnd status = (status ≢ pos 0) × (status ≢ pos 6) × (status ≢ pos 10) × (status ≢ pos 11)

-- Nothing is left, and the status is 8; or what is left is refused.
abbrev pub EndsSo : {V : Type 0} → (Verdict V → Type 0) → List ℕ → PcapfileError → ℤ → Type 0
EndsSo IsSaid rest told status = ((status ≡ pos 8) × (rest ≡ [])) ⊎ ((status ≡ pos 1 → rest ≡ [] → ⊥) × TellsRefusal IsSaid told status)

-- The packets of the front of `s` were returned, and what follows them ends the capture or is refused.
pub record FrontTaken (s rest : List ℕ) (given : List PcapfileAnyPacket) (told : PcapfileError) (status : ℤ) : Type 0 where
  pub header : PcapHeader
  pub packets : List Captured
  pub front : CaptureFront packet_limit header packets s rest
  pub shows : ShowAll (link_number header.datalink) packets given
  pub ends : EndsSo (PacketsSaid header.magic_number rest) rest told status

-- The bytes begin with no header, and nothing was read or returned.
abbrev pub NoHeader : List ℕ → List ℕ → List PcapfileAnyPacket → PcapfileError → ℤ → Type 0
NoHeader s rest given told status = (rest ≡ s) × (given ≡ []) × TellsRefusal (HeaderSays s) told status

-- The packets among the blocks of the front of `s` were returned, and what follows these blocks ends the capture or is refused.
pub record NgFrontTaken (s rest : List ℕ) (given : List PcapfileAnyPacket) (told : PcapfileError) (status : ℤ) : Type 0 where
  pub items : List Item
  pub front : Front read_format opening items s rest
  pub shows : AllZip ShowsThere (filter is_packet_there (each_under opening items)) given
  pub ends : EndsSo (ReadSays (state_after read_format opening items) rest) rest told status

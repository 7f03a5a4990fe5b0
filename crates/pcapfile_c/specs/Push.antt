-- What the calls return that read a classic capture in pieces.
use Rattle.std.specs.Prelude.{◌≡◌, ◌<◌, ◌≤◌, ◌+◌, ◌-◌, ◌⊎◌, ℕ, ℤ, pos, List, ◌++◌, length, take, drop, false, IsTrue}
use Rattle.pcap_core.specs.Answer.{whole}
use Rattle.pcap_classic.specs.declared.pcap.header.PcapHeader.{PcapHeader}
use Rattle.pcap_classic.specs.HeaderText.{HeaderSays, HeaderText}
use Rattle.pcap_classic.specs.Magic.{is_magic}
use Rattle.pcap_classic.specs.PacketText.{Captured}
use Rattle.pcapfile_values.specs.declared.errors.PcapfileError.{PcapfileError}
use Rattle.pcapfile_values.specs.declared.shown.PcapfileHeader.{PcapfileHeader}
use Rattle.pcapfile_values.specs.declared.shown.PcapfilePacket.{PcapfilePacket}
use Rattle.pcapfile_values.specs.Refusals.{TellsRefusal}
use Rattle.pcapfile_values.specs.Shown.{captured, shown_header}
use Rattle.pcapfile_c.specs.declared.push.PcapfilePush.{PcapfilePush}
use Rattle.pcapfile_c.specs.Calls.{PacketsSaid}
use Rattle.pcapfile_c.specs.Readers.{HeaderReader, Reader, header_reader}

-- The held bytes of a room: those that came and haven't been read yet.
abbrev pub held_in : PcapfilePush → List ℕ → List ℕ
held_in push room = drop push.begin (take push.end room)

-- The held bytes are within the room.
abbrev pub LiesWithin : PcapfilePush → List ℕ → Type 0
LiesWithin push room = (push.begin ≤ push.end) × (push.end ≤ length room)

-- The held bytes are not within the room.
abbrev pub LiesOutside : PcapfilePush → List ℕ → Type 0
LiesOutside push room = (push.end < push.begin) ⊎ (length room < push.end)

-- The held bytes moved to the front of the room, and all bytes after them are unchanged.
pub record MovesToFront (before push : PcapfilePush) (room now : List ℕ) : Type 0 where
  pub header : push.header ≡ before.header
  pub front : push.begin ≡ 0
  pub end : push.end ≡ before.end - before.begin
  pub held : held_in push now ≡ held_in before room
  pub behind : drop push.end now ≡ drop push.end room
  pub long : length now ≡ length room

-- After the move, this many more bytes fit into the room after the held ones: status 0. Or the room is this many bytes too short: status
-- 9.
abbrev pub TellsSpace : PcapfilePush → List ℕ → ℕ → PcapfileError → PcapfileError → ℤ → Type 0
TellsSpace push room wanted error told status =
    ((status ≡ pos 0) × (told ≡ error) × (push.end + wanted ≤ length room))
    ⊎ ((status ≡ pos 9) × (told.rule ≡ 0) × (0 < told.missing) × (length room + told.missing ≡ push.end + wanted))

-- A call that makes room has the held bytes, the room, and the error.
abbrev pub Room : Type 0
Room = Reader PcapfilePush (List ℕ)

-- The result of making room for this many more bytes after the held ones. Status 10: the held bytes are outside of the room. Status 0
-- without a move: they fit. Otherwise they don't, and the held bytes moved to the front.
abbrev pub MakesSpace : ℕ → Room → Room → ℤ → Type 0
MakesSpace wanted old new status =
    ((status ≡ pos 10) × (new.error ≡ old.error) × (new.left ≡ old.left) × (new.value ≡ old.value) × LiesOutside old.left old.value)
    ⊎ (((status ≡ pos 0) × (new.error ≡ old.error) × (new.left ≡ old.left) × (new.value ≡ old.value) × LiesWithin old.left old.value
    × (old.left.end + wanted ≤ length old.value))
    ⊎ (LiesWithin old.left old.value × (length old.value < old.left.end + wanted) × MovesToFront old.left new.left old.value new.value
    × TellsSpace new.left new.value wanted old.error new.error status))

-- Status 0: this many bytes of the room after the held ones are held too. Status 10: they exceed the room, or the held bytes are outside
-- of it, and nothing changed.
abbrev pub Puts : PcapfilePush → PcapfilePush → List ℕ → ℕ → ℤ → Type 0
Puts before push room count status =
    ((status ≡ pos 0) × (push.header ≡ before.header) × (push.begin ≡ before.begin) × (push.end ≡ before.end + count) × LiesWithin push room
    × (held_in push room ≡ held_in before room ++ take count (drop before.end room)))
    ⊎ ((status ≡ pos 10) × (push ≡ before) × (LiesOutside before room ⊎ (length room < before.end + count)))

-- The header is as before if there was one; otherwise it is read from the front of the bytes.
abbrev pub Opened : PcapfileHeader → PcapfileHeader → List ℕ → List ℕ → Type 0
Opened before now s after =
    (IsTrue (is_magic before.magic_number) × (now ≡ before) × (after ≡ s))
    ⊎ ((is_magic before.magic_number ≡ false) × (header : PcapHeader) × (now ≡ shown_header header) × HeaderText header s after)

-- NextText before now packet s rest: `s` is the text of the header if there was none, that of a packet, and then `rest`.
abbrev pub NextText : PcapfileHeader → PcapfileHeader → Captured → List ℕ → List ℕ → Type 0
NextText before now packet s rest = (after : List ℕ) × Opened before now s after × PacketsSaid now.magic_number after (whole packet rest)

-- The packet at the front of `s`, after the header, which is read first if there is none yet, and then `rest`. Status 0: the struct shows
-- the packet. Another status: the packet after the header is refused, or the header is.
abbrev pub TakesFront : HeaderReader PcapfilePacket → HeaderReader PcapfilePacket → ℤ → Type 0
TakesFront old new status =
    ((status ≡ pos 0) × (new.error ≡ old.error) × NextText old.header new.header (captured new.value) old.left new.left)
    ⊎ (((new.value ≡ old.value) × Opened old.header new.header old.left new.left × TellsRefusal (PacketsSaid new.header.magic_number new.left) new.error status)
    ⊎ ((new.value ≡ old.value) × (is_magic old.header.magic_number ≡ false) × (new.header ≡ old.header) × (new.left ≡ old.left)
    × TellsRefusal (HeaderSays old.left) new.error status))

-- A reader of the held bytes of this room, which has the header of what holds them.
abbrev pub held_reader : {S : Type 0} → List ℕ → Reader PcapfilePush S → HeaderReader S
held_reader room r = header_reader r.left.header (held_in r.left room) r.value r.error

-- The packet at the front of the held bytes, whose rest stays held. Status 10: the held bytes are outside of the room, and nothing
-- changed.
abbrev pub TakesNext : List ℕ → Reader PcapfilePush PcapfilePacket → Reader PcapfilePush PcapfilePacket → ℤ → Type 0
TakesNext room old new status =
    (LiesWithin old.left room × LiesWithin new.left room × (new.left.end ≡ old.left.end) × TakesFront (held_reader room old) (held_reader room new) status)
    ⊎ ((status ≡ pos 10) × (new.error ≡ old.error) × (new.left ≡ old.left) × (new.value ≡ old.value) × LiesOutside old.left room)

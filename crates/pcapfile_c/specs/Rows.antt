-- What the calls return that read packets as rows of numbers.
use Rattle.std.specs.Prelude.{◌≡◌, ◌<◌, ◌≤◌, ◌+◌, ◌*◌, ◌-◌, ◌^◌, ◌⊎◌, ◌==◌, if◌then◌else◌, ℕ, ℤ, pos, List, [], length, min, take, drop, Option, Some, None}
use Rattle.pcap_core.specs.declared.common.Endianness.{Endianness}
use Rattle.pcap_core.specs.Answer.{Verdict, Says, whole, lacks, faulty}
use Rattle.pcap_items.specs.Format.{Format, Texts}
use Rattle.pcap_classic.specs.PacketText.{Captured}
use Rattle.pcapfile_values.specs.declared.bodies.PcapfileNgPacket.{PcapfileNgPacket}
use Rattle.pcapfile_values.specs.declared.shown.PcapfileBytes.{PcapfileBytes}
use Rattle.pcapfile_values.specs.declared.shown.PcapfileHeader.{PcapfileHeader}
use Rattle.pcapfile_values.specs.Refusals.{TellsRefusal, TellsRefusalWhere}
use Rattle.pcapfile_c.specs.declared.rows.PcapfileNgRow.{PcapfileNgRow}
use Rattle.pcapfile_c.specs.declared.rows.PcapfileRow.{PcapfileRow}
use Rattle.pcapfile_c.specs.Batches.{EndsWithPacket, Leading, OtherText, PacketMayGrow, PacketText, PassageSays, somes}
use Rattle.pcapfile_c.specs.Calls.{PacketsSaid}
use Rattle.pcapfile_c.specs.Readers.{Reader}

-- The number of bytes, at most 2^32 - 1.
abbrev pub stored_shown : List ℕ → ℕ
stored_shown bytes = min (length bytes) (2 ^ 32 - 1)

-- The row shows a packet of this link type whose bytes begin at this place.
pub record ShowsRow (link place : ℕ) (packet : Captured) (row : PcapfileRow) : Type 0 where
  pub time : row.time_ns ≡ pos (packet.header.ts_sec * 1_000_000_000 + packet.header.ts_nsec)
  pub stored : row.len ≡ stored_shown packet.bytes
  pub original : row.orig_len ≡ packet.header.orig_len
  pub interface : row.interface_id ≡ 0
  pub link_is : row.link ≡ link
  pub offset : row.offset ≡ place

-- RowText header total row s rest: `s` is a packet after this header, which the row shows, and then `rest`, which ends at byte `total`.
pub record RowText (header : PcapfileHeader) (total : ℕ) (row : PcapfileRow) (s rest : List ℕ) : Type 0 where
  pub packet : Captured
  pub place : ℕ
  pub text : PacketsSaid header.magic_number s (whole packet rest)
  pub ends : place + length packet.bytes + length rest ≡ total
  pub shows : ShowsRow header.link place packet row

-- The verdict on bytes that should begin with a packet and end at byte `total`, with the packet as a row.
abbrev pub RowSays : PcapfileHeader → ℕ → List ℕ → Verdict PcapfileRow → Type 0
RowSays header total s =
    Says (λ row rest. RowText header total row s rest) (λ n. PacketsSaid header.magic_number s (lacks n)) (λ fault. PacketsSaid header.magic_number s (faulty fault))

-- The format of rows of packets after this header, in bytes that end at byte `total`.
unfoldable pub row_format : PcapfileHeader → ℕ → Format (Unit {0}) PcapfileRow
row_format header total = record { says = λ q. RowSays header total; goes = λ q row. q; head = λ q. 16 }

-- This many packets after this header were read as rows into the first places, and all other places are unchanged. Status 0: every place
-- is filled, or nothing is left. Another status: what is left is refused.
pub record TakesRows (header : PcapfileHeader) (old new : Reader PcapfileBytes (List PcapfileRow)) (taken : ℕ) (status : ℤ) : Type 0 where
  pub within : taken ≤ length new.value
  pub texts : Texts (row_format header (length old.left.bytes.now)) tt (take taken new.value) old.left.bytes.now new.left.bytes.now
  pub others : drop taken new.value ≡ drop taken old.value
  pub ends : ((status ≡ pos 0) × (new.error ≡ old.error) × ((taken ≡ length new.value) ⊎ (new.left.bytes.now ≡ [])))
      ⊎ ((taken < length new.value) × (0 < length new.left.bytes.now) × TellsRefusal (PacketsSaid header.magic_number new.left.bytes.now) new.error status)

-- The number of bytes in a block of this type before the data of its packet.
abbrev pub data_place : ℕ → ℕ
data_place type = if type == 3 then 12 else 28

-- The row shows a packet whose block begins at this place.
pub record ShowsNgRow (place : ℕ) (packet : PcapfileNgPacket) (row : PcapfileNgRow) : Type 0 where
  pub type_is : row.type_ ≡ packet.type_
  pub interface : row.interface_id ≡ packet.interface_id
  pub timestamp : row.timestamp ≡ packet.timestamp
  pub stored : row.len ≡ stored_shown packet.bytes.now
  pub original : row.orig_len ≡ packet.orig_len
  pub offset : row.offset ≡ place + data_place packet.type_

-- NgRowText e total row s rest: `s` is a block that is a packet, which the row shows, and then `rest`, which ends at byte `total`.
pub record NgRowText (e : Endianness) (total : ℕ) (row : PcapfileNgRow) (s rest : List ℕ) : Type 0 where
  pub packet : PcapfileNgPacket
  pub place : ℕ
  pub text : PacketText e packet s rest
  pub begins : place + length s ≡ total
  pub shows : ShowsNgRow place packet row

-- The bytes begin with a packet, or with a block that the reader skips.
abbrev pub NgPassageText : Endianness → ℕ → Option PcapfileNgRow → List ℕ → List ℕ → Type 0
NgPassageText e total (Some row) s rest = NgRowText e total row s rest
NgPassageText e total None s rest = OtherText e s rest

-- The verdict on bytes that should begin with a packet or a skipped block and end at byte `total`.
abbrev pub NgRowSays : ℕ → Endianness → List ℕ → Verdict (Option PcapfileNgRow) → Type 0
NgRowSays total e s = Says (λ found rest. NgPassageText e total found s rest) (λ n. PassageSays e s (lacks n)) (λ fault. PassageSays e s (faulty fault))

-- The format of rows of packets and skipped blocks of a section in this byte order, in bytes that end at byte `total`.
unfoldable pub ng_row_format : ℕ → Format Endianness (Option PcapfileNgRow)
ng_row_format total = record { says = NgRowSays total; goes = λ e found. e; head = λ e. 12 }

-- This many packets of a section in this byte order were read as rows into the first places, with the skipped blocks among them, and all
-- other places are unchanged. Status 0: every place is filled, or nothing is left. Status 8: a section header or an interface follows.
-- Another status: what is left is refused.
pub record TakesNgRows (e : Endianness) (old new : Reader PcapfileBytes (List PcapfileNgRow)) (taken : ℕ) (status : ℤ) : Type 0 where
  pub found : List (Option PcapfileNgRow)
  pub within : taken ≤ length new.value
  pub texts : Texts (ng_row_format (length old.left.bytes.now)) e found old.left.bytes.now new.left.bytes.now
  pub rows : take taken new.value ≡ somes found
  -- Nothing was read after the packet that fills the last place.
  pub stops : taken ≡ length new.value → EndsWithPacket found
  pub others : drop taken new.value ≡ drop taken old.value
  pub ends : ((status ≡ pos 0) × (new.error ≡ old.error) × ((taken ≡ length new.value) ⊎ (new.left.bytes.now ≡ [])))
      ⊎ (((status ≡ pos 8) × (new.error ≡ old.error) × (taken < length new.value) × Leading e new.left.bytes.now)
      ⊎ ((taken < length new.value) × (0 < length new.left.bytes.now) × TellsRefusalWhere (PacketMayGrow e new.left.bytes.now) (PassageSays e new.left.bytes.now) new.error status))

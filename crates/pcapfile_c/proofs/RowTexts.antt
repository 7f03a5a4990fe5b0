-- Packets as rows, one after the other.
use Rattle.std.proofs.Common.{◌≡◌, ◌≤◌, ◌+◌, ◌-◌, ℕ, List, [], ◌∷◌, ◌++◌, length, Option, Some, refl, sym, subst, arith}
use Rattle.pcap_core.specs.declared.common.Endianness.{Endianness}
use Rattle.pcap_core.specs.Answer.{number_in, whole}
use Rattle.pcap_items.specs.Format.{Texts}
use Rattle.pcap_items.proofs.Formats.{texts_push}
use Rattle.pcap_classic.specs.Magic.{order_of, resolution_of}
use Rattle.pcap_classic.specs.PacketText.{Captured, packet_limit}
use Rattle.pcap_classic.proofs.Texts.{packet_length}
use Rattle.pcapfile_values.specs.declared.bodies.PcapfileNgPacket.{PcapfileNgPacket}
use Rattle.pcapfile_values.specs.declared.shown.PcapfileHeader.{PcapfileHeader}
use Rattle.pcapfile_c.specs.declared.rows.PcapfileNgRow.{PcapfileNgRow}
use Rattle.pcapfile_c.specs.declared.rows.PcapfileRow.{PcapfileRow}
use Rattle.pcapfile_c.specs.Batches.{PacketText}
use Rattle.pcapfile_c.specs.Calls.{PacketsSaid}
use Rattle.pcapfile_c.specs.Rows.{NgPassageText, ShowsNgRow, ShowsRow, ng_row_format, row_format}

-- The length of a packet record.
pub row_length : (magic : ℕ) (packet : Captured) (s rest : List ℕ) → PacketsSaid magic s (whole packet rest) → length s ≡ 16 + length packet.bytes + length rest
row_length magic packet s rest text = omega (arith, packet_length (number_in (order_of magic)) packet_limit (resolution_of magic) packet s rest text, text.whole)

-- One more packet of a classic capture.
pub row_more : (header : PcapfileHeader) (total : ℕ) (rows : List PcapfileRow) (row : PcapfileRow) (place : ℕ) (packet : Captured) (s mid rest : List ℕ)
    → Texts (row_format header total) tt rows s mid → PacketsSaid header.magic_number mid (whole packet rest) → ShowsRow header.link place packet row
    → length mid ≤ total → place ≡ total - length mid + 16 → Texts (row_format header total) tt (rows ++ row ∷ []) s rest
unfolding row_format
row_more header total rows row place packet s mid rest texts text shows within is =
    let ends : place + length packet.bytes + length rest ≡ total = omega (arith, row_length header.magic_number packet mid rest text, within, is) in
    texts_push (row_format header total) tt rows row s mid rest texts (record { packet = packet; place = place; text = text; ends = ends; shows = shows })

-- One more block of a PcapNg capture.
pub ng_passage_more : (e : Endianness) (total : ℕ) (found : List (Option PcapfileNgRow)) (next : Option PcapfileNgRow) (s mid rest : List ℕ)
    → Texts (ng_row_format total) e found s mid → NgPassageText e total next mid rest → Texts (ng_row_format total) e (found ++ next ∷ []) s rest
unfolding ng_row_format
ng_passage_more e total [] next s mid rest texts text = (rest, subst (λ (t : List ℕ). NgPassageText e total next t rest) (sym texts) text, refl)
ng_passage_more e total (x ∷ found) next s mid rest texts text = (texts.0, texts.1, ng_passage_more e total found next texts.0 mid rest texts.2 text)

-- One more packet of a PcapNg capture.
pub ng_row_more : (e : Endianness) (total : ℕ) (found : List (Option PcapfileNgRow)) (row : PcapfileNgRow) (place : ℕ) (packet : PcapfileNgPacket) (s mid rest : List ℕ)
    → Texts (ng_row_format total) e found s mid → PacketText e packet mid rest → ShowsNgRow place packet row → length mid ≤ total → place ≡ total - length mid
    → Texts (ng_row_format total) e (found ++ Some row ∷ []) s rest
ng_row_more e total found row place packet s mid rest texts text shows within is =
    ng_passage_more e total found (Some row) s mid rest texts (record { packet = packet; place = place; text = text; begins = omega (arith, within, is); shows = shows })

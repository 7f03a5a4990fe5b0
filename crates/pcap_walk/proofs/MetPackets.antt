-- Packets that a walk meets.
use Rattle.std.proofs.Common.{◌≡◌, ◌-◌, ℕ, List, [], length, take, drop, Bool, true, Option, Some, None, Ok, Err, refl, sym, ap, ◌∙◌, subst, arith, append-nil}
use Rattle.std.specs.Prelude.{Result, IfSome}
use Rattle.std.proofs.lemmas.List.{drop_at}
use Rattle.pcap_core.specs.declared.errors.PcapError.{PcapError}
use Rattle.pcap_core.specs.declared.common.Endianness.{Endianness}
use Rattle.pcap_core.specs.Answer.{Order, number_in, whole}
use Rattle.pcap_items.specs.Filling.{FillsHeaded}
use Rattle.pcap_classic.specs.declared.common.TsResolution.{TsResolution}
use Rattle.pcap_classic.specs.declared.pcap.header.PcapHeader.{PcapHeader}
use Rattle.pcap_classic.specs.declared.pcap.packet.PacketHeader.{PacketHeader}
use Rattle.pcap_classic.specs.Magic.{is_magic, order_of, resolution_of}
use Rattle.pcap_classic.specs.PacketText.{packet_limit, Captured, PacketText, PacketSays}
use Rattle.pcap_classic.specs.Packets.{packet_format, reader_format}
use Rattle.pcap_classic.specs.StatedPackets.{KnowsHeader}
use Rattle.pcap_classic.proofs.HeadedPackets.{head_piece, packets_lawful}
use Rattle.pcap_classic.proofs.Packets.{reader_says}
use Rattle.pcap_classic.proofs.StatedPackets.{shown_stands}
use Rattle.pcap_walk.specs.declared.walking.Front.{Front}
use Rattle.pcap_walk.specs.MetPackets.{met_packet}
use Rattle.pcap_walk.specs.Walks.{StandsInFront, HoldsNext}
use Rattle.pcap_walk.proofs.Walks.{shown_front}

-- A packet is determined by its header and its text.
met : (order : Order) (r : TsResolution) (p : Captured) (t : List ℕ) → PacketText packet_limit order r p t [] → p ≡ met_packet p.header t
met order r p t text =
    let piece = head_piece order text.header.head t text.after text.header.text in
    let behind : drop 16 t ≡ p.bytes = ap (drop 16) piece.text ∙ drop_at piece.bytes text.after 16 piece.length_is ∙ text.data_is ∙ append-nil p.bytes in
    ap (λ (l : List ℕ). let c : Captured = record { header = p.header; bytes = l } in c) (sym behind)

-- A packet that was read at the front of bytes is an item there.
pub front_stands : (order : Order) (r : TsResolution) (p : Captured) (s rest : List ℕ) → PacketSays packet_limit order r s (whole p rest)
    → StandsInFront (packet_format packet_limit order r) met_packet tt s p.header (length s - length rest)
unfolding packet_format
front_stands order r p s rest says =
    let own = (packets_lawful packet_limit order r).own tt s rest p says in
    let front : take (length s - length rest) s ≡ own.0 = shown_front s own.0 rest own.1 in
    record {
      within = omega arith;
      text = rw front (subst (λ (c : Captured). PacketSays packet_limit order r own.0 (whole c [])) (met order r p own.0 own.2) own.2);
      stays = refl;
    }

under_says : (header : PcapHeader) (order : Endianness) (r : TsResolution) (s : List ℕ) (p : Captured) → order ≡ order_of header.magic_number → r ≡ resolution_of header.magic_number
    → (packet_format packet_limit (number_in order) r).says tt s (whole p []) → PacketSays packet_limit (number_in (order_of header.magic_number)) (resolution_of header.magic_number) s (whole p [])
unfolding packet_format
under_says header order r s p order_is resolution_is text = rw (sym order_is, sym resolution_is) text

-- A packet that was read at the front of bytes is also an item under a header.
pub under_stands : (header : PcapHeader) (order : Endianness) (r : TsResolution) (s : List ℕ) (head : PacketHeader) (size : ℕ) → is_magic header.magic_number ≡ true → order ≡ order_of header.magic_number
    → r ≡ resolution_of header.magic_number → StandsInFront (packet_format packet_limit (number_in order) r) met_packet tt s head size → StandsInFront (reader_format packet_limit header) met_packet tt s head size
under_stands header order r s head size valid order_is resolution_is stands =
    let text = take size s in
    let packet = met_packet head text in
    record { within = stands.within; text = reader_says packet_limit header text (whole packet []) valid (under_says header order r text packet order_is resolution_is stands.text); stays = refl }

-- A packet that was held is the next item.
pub packet_filled : (header : PcapHeader) (before after : Option (List ℕ)) (held : List ℕ) (failed : Bool) (result : Result (Option PacketHeader) PcapError)
    → FillsHeaded ((reader_format packet_limit header).says tt) (KnowsHeader header) ((reader_format packet_limit header).head tt) before after held failed result
    → HoldsNext (reader_format packet_limit header) met_packet tt tt before after held failed result
packet_filled header before after held failed (Ok (Some head)) x = (x.0, shown_stands header head held x.1, refl, x.4)
packet_filled header before after held failed (Ok None) x = (x.0, x.2, x.3)
packet_filled header before after held failed (Err e) x = x

-- The packet that was found at the front of bytes, if one was, is an item there.
pub under_found : (header : PcapHeader) (order : Endianness) (r : TsResolution) (s : List ℕ) (found : Option (Front PacketHeader)) → is_magic header.magic_number ≡ true → order ≡ order_of header.magic_number
    → r ≡ resolution_of header.magic_number → IfSome found (λ front. StandsInFront (packet_format packet_limit (number_in order) r) met_packet tt s front.head front.size)
    → IfSome found (λ front. StandsInFront (reader_format packet_limit header) met_packet tt s front.head front.size)
under_found header order r s None valid order_is resolution_is stands = tt
under_found header order r s (Some front) valid order_is resolution_is stands = under_stands header order r s front.head front.size valid order_is resolution_is stands

-- Packet records and their bytes.
use Rattle.std.proofs.Common.{◌≡◌, ◌≤◌, ◌+◌, ℕ, List, [], ◌∷◌, ◌++◌, length, drop, true, Err, sym, ap, ◌∙◌, subst, arith, append-nil, length-append, length-drop}
use Rattle.std.proofs.lemmas.Grind.{flat_map-append}
use Rattle.pcap_core.specs.declared.errors.PcapError.{PcapError}
use Rattle.pcap_core.specs.declared.errors.PcapError.TheVariants.{InvalidField}
use Rattle.pcap_core.specs.Answer.{number_in, whole, lacks, faulty, Refuses}
use Rattle.pcap_core.specs.Faults.{Fault}
use Rattle.pcap_core.proofs.Refusals.{refuses_shows, shown_fault}
use Rattle.pcap_items.proofs.Formats.{beginning, fault_no_text, lacks_no_text, nil_of_length, text_same}
use Rattle.pcap_classic.specs.declared.pcap.header.PcapHeader.{PcapHeader}
use Rattle.pcap_classic.specs.declared.pcap.packet.PacketHeader.{PacketHeader}
use Rattle.pcap_classic.specs.Magic.{is_magic, order_of, resolution_of}
use Rattle.pcap_classic.specs.Packets.{packet_format, reader_format}
use Rattle.pcap_classic.specs.PacketText.{Captured, PacketSays, PacketText, packet_limit}
use Rattle.pcap_classic.specs.Parser.{OpensParser}
use Rattle.pcap_classic.specs.StatedPackets.{held_packet}
use Rattle.pcap_classic.proofs.Packets.{reader_lawful, reader_says, reader_whole}
use Rattle.pcap_classic.proofs.Texts.{packet_length}
use Rattle.pcapfile_sort.specs.Packets.{IsTimed, PacketIsSaid, time_in}
use Rattle.pcapfile_sort.specs.Ranked.{Ranked, ranked_at, texts_of}

-- Two records of one time and of the same bytes are the same.
pub ranked_same : (a b : Ranked) → a.rank ≡ b.rank → a.text ≡ b.text → a ≡ b
ranked_same a b times texts =
    let made : ℕ → List ℕ → Ranked = λ time text. record { rank = time; text = text } in
    ap (λ (time : ℕ). made time a.text) times ∙ ap (λ (text : List ℕ). made b.rank text) texts

-- The bytes of one more record.
pub texts_push : (records : List Ranked) (ranked : Ranked) → texts_of (records ++ ranked ∷ []) ≡ texts_of records ++ ranked.text
texts_push records ranked = flat_map-append (λ (it : Ranked). it.text) records (ranked ∷ []) ∙ ap (λ (t : List ℕ). texts_of records ++ t) (append-nil ranked.text)

module _ (header : PcapHeader) where
  -- The bytes of a packet are those of its header and its data.
  pub packet_size : (t : List ℕ) (v : Captured) → PacketIsSaid header t (whole v []) → length t ≡ 16 + length v.bytes
  unfolding packet_format
  packet_size t v said =
      let order = number_in (order_of header.magic_number) in
      let r = resolution_of header.magic_number in
      let text : PacketText packet_limit order r v t [] = (reader_whole packet_limit header t [] v said).1 in
      omega (arith, packet_length order packet_limit r v t [] text, text.whole)

  -- A packet has a header.
  pub packet_long : (head : PacketHeader) (text : List ℕ) → PacketIsSaid header text (whole (held_packet text head) []) → 16 ≤ length text
  packet_long head text said = omega (arith, packet_size text (held_packet text head) said)

  -- A packet that was met with these bytes ends with them.
  pub packet_met : (v : Captured) (head : PacketHeader) (text bytes after behind : List ℕ) → held_packet text head ≡ v → 16 ≤ length text → bytes ≡ text ++ after → PacketIsSaid header bytes (whole v behind)
      → (after ≡ behind) × PacketIsSaid header text (whole v [])
  packet_met v head text bytes after behind is long split said =
      let own = (reader_lawful packet_limit header).own tt bytes behind v said in
      let data_long : length (drop 16 text) ≡ length v.bytes = ap (λ (p : Captured). length p.bytes) is in
      let count : length own.0 ≡ length text = omega (arith, packet_size own.0 v own.2, data_long, length-drop 16 text, long) in
      let there = beginning own.0 behind text after (sym own.1 ∙ split) (omega (arith, count)) in
      let none : there.0 ≡ [] = nil_of_length there.0 (omega (arith, count, ap length there.1, length-append own.0 there.0)) in
      let same : text ≡ own.0 = there.1 ∙ ap (λ (l : List ℕ). own.0 ++ l) none ∙ append-nil own.0 in
      (sym (there.2 ∙ ap (λ (l : List ℕ). l ++ after) none), subst (λ (t : List ℕ). PacketIsSaid header t (whole v [])) (sym same) own.2)

  module _ (valid : is_magic header.magic_number ≡ true) (text : List ℕ) (time : ℕ) where
    -- The record of these bytes at this time.
    abbrev pub here : Ranked
    here = ranked_at time text

    -- A packet without a rest is a record of its time.
    pub timed_packet : (packet : Captured) (rest : List ℕ) → PacketSays packet_limit (number_in (order_of header.magic_number)) (resolution_of header.magic_number) text (whole packet rest)
        → rest ≡ [] → time_in packet.header ≡ time → IsTimed header here
    timed_packet packet rest says none is = record {
      packet = packet;
      said = subst (λ (l : List ℕ). PacketIsSaid header text (whole packet l)) none (reader_says packet_limit header text (whole packet rest) valid says);
      time_is = sym is;
    }

    -- The packet of a record has no rest, and its time.
    pub packet_timed : (packet : Captured) (rest : List ℕ) → PacketSays packet_limit (number_in (order_of header.magic_number)) (resolution_of header.magic_number) text (whole packet rest)
        → IsTimed header here → (rest ≡ []) × (time_in packet.header ≡ time)
    packet_timed packet rest says ranked =
        let same = text_same (reader_format packet_limit header) (reader_lawful packet_limit header) tt packet ranked.packet text rest [] (reader_says packet_limit header text (whole packet rest) valid says) ranked.said in
        (same.1, ap (λ (p : Captured). time_in p.header) same.0 ∙ sym ranked.time_is)

    -- Bytes that are refused are no record.
    pub refused_untimed : (e : PcapError) → Refuses ⊥ (λ n. PacketSays packet_limit (number_in (order_of header.magic_number)) (resolution_of header.magic_number) text (lacks n))
        (λ fault. PacketSays packet_limit (number_in (order_of header.magic_number)) (resolution_of header.magic_number) text (faulty fault)) e → IsTimed header here → ⊥
    refused_untimed e refuses ranked =
        let order = number_in (order_of header.magic_number) in
        let r = resolution_of header.magic_number in
        let f = reader_format packet_limit header in
        let laws = reader_lawful packet_limit header in
        let L : ℕ → Type 0 = λ n. PacketSays packet_limit order r text (lacks n) in
        let F : Fault → Type 0 = λ fault. PacketSays packet_limit order r text (faulty fault) in
        let none : (n : ℕ) → L n → ⊥ = λ n lack. lacks_no_text f laws tt n text (reader_says packet_limit header text (lacks n) valid lack) ranked.packet [] ranked.said in
        let shown = shown_fault F e (refuses_shows L F e none refuses) in
        fault_no_text f laws tt shown.0 text (reader_says packet_limit header text (faulty shown.0) valid shown.1) ranked.packet [] ranked.said

-- A parser is made under a valid header.
pub parser_made : (header : PcapHeader) (e : PcapError) → is_magic header.magic_number ≡ true → OpensParser header (Err e) → ⊥
parser_made header (InvalidField text) valid refuses = let no = refuses.0 in absurd cc
parser_made header _ valid refuses = refuses

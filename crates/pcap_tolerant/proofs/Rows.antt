-- Rows of items, as resynchronization finds them.
use Rattle.std.proofs.Common.{◌≡◌, ◌<◌, ◌-◌, ℕ, zero, suc, List, [], length, sym, ap, subst, arith, inl, inr}
use Rattle.std.specs.Prelude.{◌⊎◌}
use Rattle.pcap_core.specs.declared.errors.PcapError.{PcapError}
use Rattle.pcap_core.specs.Answer.{Order, number_in, Verdict, whole, lacks, faulty, Refuses}
use Rattle.pcap_items.specs.Format.{Format, IsLawful}
use Rattle.pcap_items.proofs.Formats.{nil_of_length, text_same}
use Rattle.pcap_items.proofs.Fronts.{said_not_refused}
use Rattle.pcap_classic.specs.declared.common.TsResolution.{TsResolution}
use Rattle.pcap_classic.specs.declared.pcap.header.PcapHeader.{PcapHeader}
use Rattle.pcap_classic.specs.Magic.{order_of, resolution_of}
use Rattle.pcap_classic.specs.PacketText.{packet_limit, Captured, PacketSays}
use Rattle.pcap_classic.specs.Packets.{format_under}
use Rattle.pcap_classic.proofs.HeadedPackets.{packets_lawful}
use Rattle.pcap_classic.proofs.Packets.{packets_say, packets_refuse}
use Rattle.pcap_tolerant.specs.Resync.{Row, HasData, PacketRow}

module _ {S V : Type 0} (f : Format S V) (P : V → Type 0) (laws : IsLawful f) where
  -- Behind the first item of a row, the row goes on.
  pub row_down : (q : S) (k : ℕ) (s after : List ℕ) (v : V) → f.says q s (whole v after) → Row f P q (suc k) s → (after ≡ []) ⊎ Row f P (f.goes q v) k after
  row_down q k s after v x row =
      let e = text_same f laws q row.0 v s row.1 after row.2 x in
      let here : (row.1 ≡ []) ⊎ Row f P (f.goes q v) k row.1 = subst (λ (w : V). (row.1 ≡ []) ⊎ Row f P (f.goes q w) k row.1) e.0 row.4 in
      subst (λ (a : List ℕ). (a ≡ []) ⊎ Row f P (f.goes q v) k a) e.1 here

  pub row_sound : (q : S) (k : ℕ) (s after : List ℕ) (v : V) → f.says q s (whole v after) → Row f P q (suc k) s → P v
  row_sound q k s after v x row =
      let e = text_same f laws q row.0 v s row.1 after row.2 x in
      subst P e.0 row.3

  -- ---- the same for a count that goes down by one for each item

  pub goes_down : (q : S) (more : ℕ) (s rest : List ℕ) (v : V) → f.says q s (whole v rest) → 0 < more → (length rest ≡ 0 → ⊥) → Row f P q more s → Row f P (f.goes q v) (more - 1) rest
  goes_down q zero s rest v x some on row = absurd (omega (arith, some))
  goes_down q (suc k) s rest v x some on row =
      let e : suc k - 1 ≡ k = omega arith in
      let here : Row f P (f.goes q v) k rest = elim (row_down q k s rest v x row) [ inl none ↦ absurd (on (ap length none)) | inr next ↦ next ] in
      subst (λ (n : ℕ). Row f P (f.goes q v) n rest) (sym e) here

  pub goes_up : (q : S) (more : ℕ) (s rest : List ℕ) (v : V) → f.says q s (whole v rest) → P v → 0 < more → Row f P (f.goes q v) (more - 1) rest → Row f P q more s
  goes_up q zero s rest v x sound some row = absurd (omega (arith, some))
  goes_up q (suc k) s rest v x sound some row =
      let e : suc k - 1 ≡ k = omega arith in
      (v, rest, x, sound, inr (subst (λ (n : ℕ). Row f P (f.goes q v) n rest) e row))

  pub goes_to_the_end : (q : S) (more : ℕ) (s rest : List ℕ) (v : V) → f.says q s (whole v rest) → P v → 0 < more → length rest ≡ 0 → Row f P q more s
  goes_to_the_end q zero s rest v x sound some none = absurd (omega (arith, some))
  goes_to_the_end q (suc k) s rest v x sound some none = (v, rest, x, sound, inl (nil_of_length rest none))

  pub goes_no_further : (q : S) (more : ℕ) (s : List ℕ) (e : PcapError) → Refuses ⊥ (λ n. f.says q s (lacks n)) (λ fault. f.says q s (faulty fault)) e → 0 < more → Row f P q more s → ⊥
  goes_no_further q zero s e x some row = omega (arith, some)
  goes_no_further q (suc k) s e x some row = said_not_refused (f.says q s) (laws.one q s) row.0 row.1 row.2 e x

  pub goes_not_over : (q : S) (more : ℕ) (s rest : List ℕ) (v : V) → f.says q s (whole v rest) → (P v → ⊥) → 0 < more → Row f P q more s → ⊥
  goes_not_over q zero s rest v x unsound some row = omega (arith, some)
  goes_not_over q (suc k) s rest v x unsound some row = unsound (row_sound q k s rest v x row)

-- ---- packets under a header

module _ (header : PcapHeader) where
  abbrev f : Format (Unit {0}) Captured
  f = format_under packet_limit header

  abbrev order : Order
  order = number_in (order_of header.magic_number)

  abbrev r : TsResolution
  r = resolution_of header.magic_number

  laws : IsLawful f
  laws = packets_lawful packet_limit order r

  said : (s : List ℕ) (v : Verdict Captured) → PacketSays packet_limit order r s v → f.says tt s v
  said s v x = packets_say packet_limit order r tt s v x

  pub packets_down : (more : ℕ) (s rest : List ℕ) (v : Captured) → PacketSays packet_limit order r s (whole v rest) → 0 < more → (length rest ≡ 0 → ⊥) → PacketRow header more s → PacketRow header (more - 1) rest
  packets_down more s rest v x = goes_down f HasData laws tt more s rest v (said s (whole v rest) x)

  pub packets_up : (more : ℕ) (s rest : List ℕ) (v : Captured) → PacketSays packet_limit order r s (whole v rest) → HasData v → 0 < more → PacketRow header (more - 1) rest → PacketRow header more s
  packets_up more s rest v x = goes_up f HasData laws tt more s rest v (said s (whole v rest) x)

  pub packets_end : (more : ℕ) (s rest : List ℕ) (v : Captured) → PacketSays packet_limit order r s (whole v rest) → HasData v → 0 < more → length rest ≡ 0 → PacketRow header more s
  packets_end more s rest v x = goes_to_the_end f HasData laws tt more s rest v (said s (whole v rest) x)

  pub packets_refused : (more : ℕ) (s : List ℕ) (e : PcapError) → Refuses ⊥ (λ n. PacketSays packet_limit order r s (lacks n)) (λ fault. PacketSays packet_limit order r s (faulty fault)) e → 0 < more → PacketRow header more s → ⊥
  packets_refused more s e x = goes_no_further f HasData laws tt more s e (packets_refuse packet_limit order r tt s e x)

  pub packets_empty : (more : ℕ) (s rest : List ℕ) (v : Captured) → PacketSays packet_limit order r s (whole v rest) → v.header.incl_len ≡ 0 → 0 < more → PacketRow header more s → ⊥
  packets_empty more s rest v x none = goes_not_over f HasData laws tt more s rest v (said s (whole v rest) x) (λ some. omega (arith, none, some))

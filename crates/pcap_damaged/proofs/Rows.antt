-- Rows of plausible packets, as the code goes through them.
use Rattle.std.proofs.Common.{◌≡◌, ◌<◌, ◌-◌, ℕ, zero, suc, List, [], length, sym, ap, subst, arith, inl, inr, Option, Some}
use Rattle.std.specs.Prelude.{◌⊎◌}
use Rattle.pcap_core.specs.declared.errors.PcapError.{PcapError}
use Rattle.pcap_core.specs.Answer.{Order, number_in, Verdict, whole, lacks, faulty, Refuses}
use Rattle.pcap_items.specs.Format.{Format, IsLawful}
use Rattle.pcap_items.proofs.Formats.{nil_of_length, text_same}
use Rattle.pcap_items.proofs.Fronts.{said_not_refused}
use Rattle.pcap_classic.specs.declared.common.TsResolution.{TsResolution}
use Rattle.pcap_classic.specs.declared.pcap.header.PcapHeader.{PcapHeader}
use Rattle.pcap_classic.specs.Magic.{order_of, resolution_of}
use Rattle.pcap_classic.specs.PacketText.{packet_limit, Captured, PacketSays}
use Rattle.pcap_classic.specs.Packets.{format_under}
use Rattle.pcap_classic.proofs.HeadedPackets.{packets_lawful}
use Rattle.pcap_classic.proofs.Packets.{packets_say, packets_refuse}
use Rattle.pcap_damaged.specs.Plausible.{Plausible, PlausibleRow}

module _ (header : PcapHeader) where
  abbrev f : Format (Unit {0}) Captured
  f = format_under packet_limit header

  abbrev order : Order
  order = number_in (order_of header.magic_number)

  abbrev r : TsResolution
  r = resolution_of header.magic_number

  laws : IsLawful f
  laws = packets_lawful packet_limit order r

  said : (s : List ℕ) (v : Verdict Captured) → PacketSays packet_limit order r s v → f.says tt s v
  said s v x = packets_say packet_limit order r tt s v x

  abbrev Row : Option ℕ → ℕ → List ℕ → Type 0
  Row = PlausibleRow header

  -- The first packet of a row is plausible.
  pub row_first : (time : Option ℕ) (more : ℕ) (s rest : List ℕ) (v : Captured) → PacketSays packet_limit order r s (whole v rest) → 0 < more → Row time more s → Plausible header time v
  row_first time zero s rest v x some row = absurd (omega (arith, some))
  row_first time (suc k) s rest v x some row =
      let e = text_same f laws tt row.0 v s row.1 rest row.2 (said s (whole v rest) x) in
      subst (Plausible header time) e.0 row.3

  -- Behind the first packet, the row goes on.
  pub row_down : (time : Option ℕ) (more : ℕ) (s rest : List ℕ) (v : Captured) → PacketSays packet_limit order r s (whole v rest) → 0 < more → (length rest ≡ 0 → ⊥) → Row time more s → Row (Some v.header.ts_sec) (more - 1) rest
  row_down time zero s rest v x some on row = absurd (omega (arith, some))
  row_down time (suc k) s rest v x some on row =
      let e = text_same f laws tt row.0 v s row.1 rest row.2 (said s (whole v rest) x) in
      let here : (row.1 ≡ []) ⊎ Row (Some v.header.ts_sec) k row.1 = subst (λ (w : Captured). (row.1 ≡ []) ⊎ Row (Some w.header.ts_sec) k row.1) e.0 row.4 in
      let there : (rest ≡ []) ⊎ Row (Some v.header.ts_sec) k rest = subst (λ (a : List ℕ). (a ≡ []) ⊎ Row (Some v.header.ts_sec) k a) e.1 here in
      let one : suc k - 1 ≡ k = omega arith in
      let goes : Row (Some v.header.ts_sec) k rest = elim there [ inl none ↦ absurd (on (ap length none)) | inr next ↦ next ] in
      subst (λ (n : ℕ). Row (Some v.header.ts_sec) n rest) (sym one) goes

  pub row_up : (time : Option ℕ) (more : ℕ) (s rest : List ℕ) (v : Captured) → PacketSays packet_limit order r s (whole v rest) → Plausible header time v → 0 < more → Row (Some v.header.ts_sec) (more - 1) rest → Row time more s
  row_up time zero s rest v x sound some row = absurd (omega (arith, some))
  row_up time (suc k) s rest v x sound some row =
      let one : suc k - 1 ≡ k = omega arith in
      (v, rest, said s (whole v rest) x, sound, inr (subst (λ (n : ℕ). Row (Some v.header.ts_sec) n rest) one row))

  pub row_end : (time : Option ℕ) (more : ℕ) (s rest : List ℕ) (v : Captured) → PacketSays packet_limit order r s (whole v rest) → Plausible header time v → 0 < more → length rest ≡ 0 → Row time more s
  row_end time zero s rest v x sound some none = absurd (omega (arith, some))
  row_end time (suc k) s rest v x sound some none = (v, rest, said s (whole v rest) x, sound, inl (nil_of_length rest none))

  pub row_refused : (time : Option ℕ) (more : ℕ) (s : List ℕ) (e : PcapError) → Refuses ⊥ (λ n. PacketSays packet_limit order r s (lacks n)) (λ fault. PacketSays packet_limit order r s (faulty fault)) e → 0 < more → Row time more s → ⊥
  row_refused time zero s e x some row = omega (arith, some)
  row_refused time (suc k) s e x some row = said_not_refused (f.says tt s) (laws.one tt s) row.0 row.1 row.2 e (packets_refuse packet_limit order r tt s e x)

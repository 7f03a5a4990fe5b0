-- Packets are a lawful format.
use Rattle.std.proofs.Common.{◌≡◌, ◌<◌, ℕ, Bool, true, false, ◌≤◌, List, [], ◌∷◌, ◌++◌, length, refl, sym, ap, subst, ◌∙◌, arith, length-append}
use Rattle.std.proofs.lemmas.List.{nil_from_length}
use Rattle.pcap_core.specs.declared.rules.Rule.TheVariants.{CaptureMagic}
use Rattle.pcap_core.specs.Faults.{Invalid}
use Rattle.pcap_classic.specs.declared.common.TsResolution.{TsResolution}
use Rattle.pcap_classic.specs.declared.pcap.header.PcapHeader.{PcapHeader}
use Rattle.pcap_core.specs.declared.errors.PcapError.{PcapError}
use Rattle.pcap_classic.specs.Magic.{is_magic, order_of, resolution_of}
use Rattle.pcap_core.specs.Answer.{number_in, Verdict, whole, lacks, faulty, Refuses}
use Rattle.pcap_classic.specs.PacketText.{PacketSays, Captured}
use Rattle.pcap_core.specs.Laws.{ExactlyOne}
use Rattle.pcap_items.specs.Format.{Format, IsLawful, Extends, Front}
use Rattle.pcap_classic.specs.Packets.{packet_format, format_under, RefusingSays, refusing_format, choice, reader_format}
use Rattle.pcap_classic.specs.Front.{CaptureFront}
use Rattle.pcap_classic.proofs.One.{header_same}
use Rattle.pcap_classic.proofs.HeadedPackets.{packets_lawful}
use Rattle.pcap_items.proofs.Formats.{front_extends}

-- The verdicts of the calls on slices are those of the format.
pub packets_say : (limit : ℕ) (order : ℕ → List ℕ → ℕ) (r : TsResolution) (q : Unit {0}) (s : List ℕ) (v : Verdict Captured) → PacketSays limit order r s v → (packet_format limit order r).says q s v
unfolding packet_format
packets_say limit order r q s v x = x

pub packets_refuse : (limit : ℕ) (order : ℕ → List ℕ → ℕ) (r : TsResolution) (q : Unit {0}) (s : List ℕ) (e : PcapError)
    → Refuses ⊥ (λ n. PacketSays limit order r s (lacks n)) (λ fault. PacketSays limit order r s (faulty fault)) e
    → Refuses ⊥ (λ n. (packet_format limit order r).says q s (lacks n)) (λ fault. (packet_format limit order r).says q s (faulty fault)) e
unfolding packet_format
packets_refuse limit order r q s e x = x

packets_extend : (limit larger : ℕ) (order : ℕ → List ℕ → ℕ) (r : TsResolution) → limit ≤ larger → Extends (packet_format limit order r) (packet_format larger order r)
unfolding packet_format
packets_extend limit larger order r le = record {
  texts = λ q s rest packet p. record {
    after = p.after;
    header = record {
      head = p.header.head;
      text = p.header.text;
      good = record { fraction = p.header.good.fraction; included = p.header.good.included; original = omega (arith, le, p.header.good.original) };
      value = p.header.value;
    };
    data_is = p.data_is;
    whole = p.whole;
  };
  goes = λ q packet. refl;
}

-- The front after an equal header is the same.
pub under_same : (limit : ℕ) (h k : PcapHeader) (ps : List Captured) (s t rest : List ℕ) → h ≡ k → s ≡ t → Front (format_under limit h) tt ps s rest → Front (format_under limit k) tt ps t rest
under_same limit h k ps s t rest header bytes x =
    let one : Front (format_under limit k) tt ps s rest = subst (λ (z : PcapHeader). Front (format_under limit z) tt ps s rest) header x in
    subst (λ (z : List ℕ). Front (format_under limit k) tt ps z rest) bytes one

pub larger_keeps : (limit larger : ℕ) (h k : PcapHeader) (ps qs : List Captured) (s a b : List ℕ) → limit ≤ larger → CaptureFront limit h ps s a → CaptureFront larger k qs s b
    → (h ≡ k) × (more : List Captured) × (qs ≡ ps ++ more)
larger_keeps limit larger h k ps qs s a b le x y =
    let e = header_same h k s x.after y.after x.header_text y.header_text in
    let order = number_in (order_of k.magic_number) in
    let r = resolution_of k.magic_number in
    let front = under_same limit h k ps x.after y.after a e.0 e.1 x.front in
    let on = front_extends (packet_format limit order r) (packet_format larger order r) (packets_lawful larger order r) (packets_extend limit larger order r le) tt ps qs y.after a b front y.front in
    (e.0, on.0, on.1)

-- ---- under an invalid magic number

refusing_only : (s : List ℕ) (v w : Verdict Captured) → RefusingSays s v → RefusingSays s w → v ≡ w
refusing_only s (lacks n) (lacks m) x y = let e : n ≡ m = x.1 ∙ sym y.1 in rw e refl
refusing_only s (lacks n) (faulty g) x y = absurd (omega (arith, ap length x.0, y.0))
refusing_only s (lacks n) (whole p a) x y = absurd y
refusing_only s (faulty f) (lacks m) x y = absurd (omega (arith, ap length y.0, x.0))
refusing_only s (faulty f) (faulty g) x y = let e : f ≡ g = x.1 ∙ sym y.1 in rw e refl
refusing_only s (faulty f) (whole p a) x y = absurd y
refusing_only s (whole p a) w x y = absurd x

refusing_there : (s : List ℕ) → (v : Verdict Captured) × RefusingSays s v
refusing_there [] = (lacks 1, (refl, refl))
refusing_there (b ∷ s) = (faulty (Invalid CaptureMagic), (omega arith, refl))

refusing_one : (s : List ℕ) → ExactlyOne (RefusingSays s)
refusing_one s =
    let v = refusing_there s in
    record { value = v.0; holds = v.1; only = λ w h. refusing_only s w v.0 h v.1 }

refusing_lawful : IsLawful refusing_format
unfolding refusing_format
refusing_lawful = record {
  one = λ q s. refusing_one s;
  stable = λ q. record {
    text = λ s more rest packet h. absurd h;
    fault = λ s more fault h. (omega (arith, h.0, length-append s more), h.1);
    request = λ s more n fewer h. (nil_from_length (s ++ more) (omega (arith, length-append s more, ap length h.0, h.1)), omega (arith, h.1));
  };
  own = λ q s rest packet text. absurd text;
  some = λ q. omega arith;
  asks = λ q s n lack. omega (arith, lack.1);
  short = λ q s n sum some. (nil_from_length s (omega (arith, sum, some)), omega (arith, sum, some));
  last = λ q s more n m long lack count again. omega (arith, long, ap length lack.0);
}

chosen_lawful : (b : Bool) (f g : Format (Unit {0}) Captured) → IsLawful f → IsLawful g → IsLawful (choice b f g)
chosen_lawful true f g x y = x
chosen_lawful false f g x y = y

pub reader_lawful : (limit : ℕ) (header : PcapHeader) → IsLawful (reader_format limit header)
unfolding reader_format
reader_lawful limit header =
    chosen_lawful (is_magic header.magic_number) (format_under limit header) refusing_format
    (packets_lawful limit (number_in (order_of header.magic_number)) (resolution_of header.magic_number)) refusing_lawful

chosen_says : (b : Bool) (f g : Format (Unit {0}) Captured) (s : List ℕ) (v : Verdict Captured) → b ≡ true → f.says tt s v → (choice b f g).says tt s v
chosen_says true f g s v e x = x
chosen_says false f g s v e x = absurd cc

-- Under a valid magic number a reader reads packets.
pub reader_says : (limit : ℕ) (header : PcapHeader) (s : List ℕ) (v : Verdict Captured) → is_magic header.magic_number ≡ true
    → PacketSays limit (number_in (order_of header.magic_number)) (resolution_of header.magic_number) s v → (reader_format limit header).says tt s v
unfolding reader_format
reader_says limit header s v valid x =
    chosen_says (is_magic header.magic_number) (format_under limit header) refusing_format s v valid
    (packets_say limit (number_in (order_of header.magic_number)) (resolution_of header.magic_number) tt s v x)

chosen_refuses : (b : Bool) (f g : Format (Unit {0}) Captured) (s : List ℕ) (v : Verdict Captured) → b ≡ false → g.says tt s v → (choice b f g).says tt s v
chosen_refuses false f g s v e x = x
chosen_refuses true f g s v e x = absurd cc

-- Under an invalid magic number a reader refuses the first byte.
pub reader_refuses : (limit : ℕ) (header : PcapHeader) (s : List ℕ) → is_magic header.magic_number ≡ false → 0 < length s → (reader_format limit header).says tt s (faulty (Invalid CaptureMagic))
unfolding reader_format refusing_format
reader_refuses limit header s invalid some =
    chosen_refuses (is_magic header.magic_number) (format_under limit header) refusing_format s (faulty (Invalid CaptureMagic)) invalid (some, refl)

chosen_whole : (b : Bool) (f : Format (Unit {0}) Captured) (s rest : List ℕ) (packet : Captured) → (choice b f refusing_format).says tt s (whole packet rest) → (b ≡ true) × f.says tt s (whole packet rest)
unfolding refusing_format
chosen_whole true f s rest packet x = (refl, x)
chosen_whole false f s rest packet x = absurd x

-- A packet that a reader returns was read under a valid magic number, and has a packet's text.
pub reader_whole : (limit : ℕ) (header : PcapHeader) (s rest : List ℕ) (packet : Captured) → (reader_format limit header).says tt s (whole packet rest)
    → (is_magic header.magic_number ≡ true) × (format_under limit header).says tt s (whole packet rest)
unfolding reader_format
reader_whole limit header s rest packet x = chosen_whole (is_magic header.magic_number) (format_under limit header) s rest packet x

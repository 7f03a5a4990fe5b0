-- What is ahead, byte by byte and head by head.
use Rattle.std.proofs.Common.{◌≡◌, ◌≤◌, ◌<◌, ◌+◌, ◌-◌, ◌++◌, ◌∷◌, [], ℕ, List, Bool, false, Option, None, Some, inl, inr, length, drop, take, refl, sym, ap, subst, ◌∙◌, arith}
use Rattle.std.specs.Prelude.{◌⊎◌, IsTrue}
use Rattle.std.proofs.lemmas.Bool.{false≢true}
use Rattle.std.proofs.lemmas.List.{take-append-le, drop-append-le, take-append-drop, take_all, drop_all, length-append, length-drop, drop-drop, append_assoc, append-nil}
use Rattle.pcap_variants.specs.Variants.{Packet, ArePackets, CanBeHead, further_len, included_in, text_of, plain_of}
use Rattle.pcap_variants.specs.Ahead.{Ahead}
use Rattle.pcap_variants.specs.Fronts.{IsShort, Looks, MayFollow, Skips, Steps}
use Rattle.pcap_variants.specs.declared.front.Step.{Step}
use Rattle.pcap_variants.specs.declared.variant.Variant.{Variant}

-- Two ways to split the same bytes agree in their first bytes, and behind them.
record Same (len : ℕ) (a b c d : List ℕ) : Type 0 where
  pub front : take len a ≡ take len c
  pub behind : drop len a ++ b ≡ drop len c ++ d

both : (len : ℕ) (a b c d : List ℕ) → a ++ b ≡ c ++ d → len ≤ length a → len ≤ length c → Same len a b c d
both len a b c d e in_a in_c = record {
  front = sym (take-append-le len a b in_a) ∙ (ap (take len) e ∙ take-append-le len c d in_c);
  behind = sym (drop-append-le len a b in_a) ∙ (ap (drop len) e ∙ drop-append-le len c d in_c);
}

nil_of : (s : List ℕ) → length s ≡ 0 → s ≡ []
nil_of [] none = refl
nil_of (x ∷ xs) none = absurd (omega (arith, none))

module _ (variant : Variant) where
  abbrev n : ℕ
  n = further_len variant.further

  -- So many bytes are written, and then what is ahead behind them.
  abbrev pub Goes : ℕ → ℕ → ℕ → List ℕ → List ℕ → List ℕ → Type 0
  Goes written passed left s next plain = (rest : List ℕ) × (plain ≡ take written s ++ rest) × Ahead variant left (drop passed s ++ next) rest

  -- Bytes that stay are written.
  pub stay : (left len : ℕ) (s next plain : List ℕ) → len ≤ left → len ≤ length s → Ahead variant left (s ++ next) plain → Goes len len (left - len) s next plain
  stay left len s next plain in_left in_s a =
      let same = both len s next a.stays (text_of a.packets) a.text in_s (omega (arith, in_left, a.length_is)) in
      let whole : a.stays ≡ take len s ++ drop len a.stays = sym (take-append-drop len a.stays) ∙ ap (λ (l : List ℕ). l ++ drop len a.stays) (sym same.front) in (
        drop len a.stays ++ plain_of a.packets,
        a.same ∙ (ap (λ (l : List ℕ). l ++ plain_of a.packets) whole ∙ append_assoc (take len s) (drop len a.stays) (plain_of a.packets)),
        record {
          stays = drop len a.stays;
          packets = a.packets;
          length_is = length-drop len a.stays ∙ ap (λ (k : ℕ). k - len) a.length_is;
          are = a.are;
          text = same.behind;
          same = refl;
        },
      )

  -- A head is ahead: it can be one, and the packet's data is behind it.
  pub record HeadAhead (s next plain : List ℕ) : Type 0 where
    pub can : CanBeHead variant.order (take 16 s)
    pub goes : Goes 16 (16 + n) (included_in variant.order (take 16 s)) s next plain

  head_of : (packets : List Packet) (s next : List ℕ) → ArePackets variant packets → 16 + n ≤ length s → s ++ next ≡ text_of packets → HeadAhead s next (plain_of packets)
  head_of [] s next are long e = absurd (omega (arith, long, length-append s next, ap length e))
  head_of (p ∷ ps) s next are long e =
      let first = both 16 s next p.head (p.further ++ (p.stored ++ text_of ps)) e (omega (arith, long)) (omega (arith, are.0.head)) in
      let head : take 16 s ≡ p.head = first.front ∙ take_all 16 p.head (omega (arith, are.0.head)) in
      let begin = p.head ++ p.further in
      let len : length begin ≡ 16 + n = omega (arith, length-append p.head p.further, are.0.head, are.0.further) in
      let split : s ++ next ≡ begin ++ (p.stored ++ text_of ps) = e ∙ sym (append_assoc p.head p.further (p.stored ++ text_of ps)) in
      let whole = both (16 + n) s next begin (p.stored ++ text_of ps) split long (omega (arith, len)) in
      let none : drop (16 + n) begin ≡ [] = drop_all (16 + n) begin (omega (arith, len)) in
      record {
        can = subst (CanBeHead variant.order) (sym head) are.0.can;
        goes = (
          p.stored ++ plain_of ps,
          ap (λ (l : List ℕ). l ++ (p.stored ++ plain_of ps)) (sym head),
          record {
            stays = p.stored;
            packets = ps;
            length_is = sym are.0.stored ∙ ap (included_in variant.order) (sym head);
            are = are.1;
            text = whole.behind ∙ ap (λ (l : List ℕ). l ++ (p.stored ++ text_of ps)) none;
            same = refl;
          },
        );
      }

  pub head_ahead : (s next plain : List ℕ) → 16 + n ≤ length s → Ahead variant 0 (s ++ next) plain → HeadAhead s next plain
  head_ahead s next plain long a =
      let none = nil_of a.stays a.length_is in
      let text : s ++ next ≡ text_of a.packets = a.text ∙ ap (λ (l : List ℕ). l ++ text_of a.packets) none in
      let same : plain ≡ plain_of a.packets = a.same ∙ ap (λ (l : List ℕ). l ++ plain_of a.packets) none in
      subst (HeadAhead s next) (sym same) (head_of a.packets s next a.are long text)

  -- With its data behind it, another head follows.
  pub second_can : (s next plain : List ℕ) → 16 + n + included_in variant.order (take 16 s) + (16 + n) ≤ length s → Ahead variant 0 (s ++ next) plain → CanBeHead variant.order (take 16 (drop (16 + n + included_in variant.order (take 16 s)) s))
  second_can s next plain long a =
      let len = included_in variant.order (take 16 s) in
      let t = drop (16 + n) s in
      let first = (head_ahead s next plain (omega (arith, long)) a).goes in
      let whole : length t ≡ length s - (16 + n) = length-drop (16 + n) s in
      let second = (stay len len t next first.0 (omega arith) (omega (arith, long, whole)) first.2) in
      let zero : len - len ≡ 0 = omega arith in
      let there : Ahead variant 0 (drop len t ++ next) second.0 = subst (λ (k : ℕ). Ahead variant k (drop len t ++ next) second.0) zero second.2 in
      let rest : length (drop len t) ≡ length t - len = length-drop len t in
      let can = (head_ahead (drop len t) next second.0 (omega (arith, long, whole, rest)) there).can in
      subst (λ (l : List ℕ). CanBeHead variant.order (take 16 l)) (drop-drop len (16 + n) s) can

  -- A step over corrupt bytes is one where no packet of the variant is ahead.
  pub skipped : (left : ℕ) (is_all : Bool) (s : List ℕ) (step : Option Step) → ((next plain : List ℕ) → Ahead variant left (s ++ next) plain → ⊥) → Skips is_all s step → Looks variant left is_all s step
  skipped left is_all s (Some step) none within = (within, λ next plain may a. absurd (none next plain a))
  skipped left is_all s None none more = λ all. absurd (false≢true (sym more ∙ all))

  -- A step goes on from what was written so far.
  pub go_on : (is_all : Bool) (left here : ℕ) (step : Step) (held before now next plain : List ℕ)
      → (rest : List ℕ) × (before ++ plain ≡ now ++ rest) × Ahead variant left (drop here held ++ next) rest
      → Steps variant is_all left (drop here held) step → MayFollow is_all next
      → (rest : List ℕ) × (before ++ plain ≡ (now ++ take step.written (drop here held)) ++ rest) × Ahead variant step.left (drop (here + step.passed) held ++ next) rest
  go_on is_all left here step held before now next plain far steps may =
      let goes = steps next far.0 may far.2 in (
        goes.0,
        far.1 ∙ (ap (λ (l : List ℕ). now ++ l) goes.1 ∙ sym (append_assoc now (take step.written (drop here held)) goes.0)),
        subst (λ (l : List ℕ). Ahead variant step.left (l ++ next) goes.0) (drop-drop step.passed here held) goes.2,
      )

  -- Fewer bytes than a head has are those of no packet.
  none_of : (packets : List Packet) → ArePackets variant packets → length (text_of packets) < 16 + n → (text_of packets ≡ []) × (plain_of packets ≡ [])
  none_of [] are short = (refl, refl)
  none_of (p ∷ ps) are short =
      absurd (omega (arith, short, length-append p.head (p.further ++ (p.stored ++ text_of ps)), length-append p.further (p.stored ++ text_of ps), are.0.head, are.0.further))

  -- The bytes of packets are none, or at least those of a head.
  some_of : (packets : List Packet) → ArePackets variant packets → (length (text_of packets) ≡ 0) ⊎ (16 + n ≤ length (text_of packets))
  some_of [] are = inl refl
  some_of (p ∷ ps) are =
      inr (omega (arith, length-append p.head (p.further ++ (p.stored ++ text_of ps)), length-append p.further (p.stored ++ text_of ps), are.0.head, are.0.further))

  -- If nothing follows, the bytes end with the packet, or another head is behind it.
  pub whole_end : (s plain : List ℕ) → 16 + n ≤ length s → Ahead variant 0 (s ++ []) plain
      → (length s ≡ 16 + n + included_in variant.order (take 16 s)) ⊎ (16 + n + included_in variant.order (take 16 s) + (16 + n) ≤ length s)
  whole_end s plain long a =
      let behind = (head_ahead s [] plain long a).goes.2 in
      let t = drop (16 + n) s in
      let text = text_of behind.packets in
      let len : length t ≡ included_in variant.order (take 16 s) + length text = omega (arith, ap length behind.text, length-append t [], length-append behind.stays text, behind.length_is) in
      let whole : length t ≡ length s - (16 + n) = length-drop (16 + n) s in
      elim (some_of behind.packets behind.are) [ inl none ↦ inl (omega (arith, none, len, whole, long)) | inr some ↦ inr (omega (arith, some, len, whole, long)) ]

  rest_of : (left : ℕ) (held rest : List ℕ) (a : Ahead variant left (held ++ []) rest) → length a.stays ≡ 0 → length held < 16 + n → held ≡ rest
  rest_of left held rest a none short =
      let no = nil_of a.stays none in
      let text : held ≡ text_of a.packets = sym (append-nil held) ∙ (a.text ∙ ap (λ (l : List ℕ). l ++ text_of a.packets) no) in
      let nothing = none_of a.packets a.are (omega (arith, short, ap length text)) in
      let same : rest ≡ plain_of a.packets = a.same ∙ ap (λ (l : List ℕ). l ++ plain_of a.packets) no in
      text ∙ (nothing.0 ∙ sym (same ∙ nothing.1))

  -- At the end, what is held is the rest.
  pub held_is_rest : (left : ℕ) (held rest : List ℕ) → (held ≡ []) ⊎ IsShort variant left held → Ahead variant left (held ++ []) rest → held ≡ rest
  held_is_rest left held rest (inl none) a =
      let zero : length held ≡ 0 = ap length none in
      rest_of left held rest a (omega (arith, zero, ap length a.text, length-append held [], length-append a.stays (text_of a.packets))) (omega (arith, zero))
  held_is_rest left held rest (inr short) a = rest_of left held rest a (a.length_is ∙ short.none) short.short

-- What is false is not true.
pub untrue : {b : Bool} → b ≡ false → IsTrue b → ⊥
untrue isnt is = cc

-- The format of packets read leniently is lawful, and strict reading of the same bytes has a known answer.
use Rattle.std.proofs.Common.{◌≡◌, ◌<◌, ◌≤◌, ℕ, List, [], ◌++◌, length, refl, sym, ap, subst, ◌∙◌, arith, inl, inr}
use Rattle.std.proofs.lemmas.Bool.{cases_lt}
use Rattle.std.proofs.lemmas.List.{nil_from_length}
use Rattle.pcap_classic.specs.declared.common.TsResolution.{TsResolution}
use Rattle.pcap_core.specs.declared.rules.Rule.TheVariants.{IncludedTooLong}
use Rattle.pcap_core.specs.Answer.{Order, Verdict, whole, lacks, faulty}
use Rattle.pcap_core.specs.Faults.{Fault, Invalid}
use Rattle.pcap_core.specs.Laws.{ExactlyOne, IsStable}
use Rattle.pcap_items.specs.Format.{IsLawful}
use Rattle.pcap_items.specs.Headed.{Piece, HeadReading, good, bad, HeadedSays, headed, IsHeaded}
use Rattle.pcap_core.proofs.Numbers.{numbers_there}
use Rattle.pcap_items.proofs.Formats.{lawful_moved}
use Rattle.pcap_items.proofs.Headed.{headed_lawful}
use Rattle.pcap_classic.specs.PacketText.{Head, RecordHeadText}
use Rattle.pcap_classic.proofs.FieldNumbers.{head_widths, head_with, head_from, head_same, head_length}
use Rattle.pcap_classic.proofs.HeadedPackets.{head_again, head_piece}
use Rattle.pcap_tolerant.specs.declared.as_is.Flaws.{Flaws}
use Rattle.pcap_tolerant.specs.AsIs.{flaws_of, AsIs, HasLongHead, AsIsSays, as_is_format, HeadReads, DataReads, headed_as_is}

-- ---- a head's sixteen bytes, and the data, have exactly one answer

head_there : (order : Order) (b : List ℕ) → length b ≡ 16 → (head : Head) × RecordHeadText order head b []
head_there order b count =
    let t = numbers_there order head_widths b (omega (arith, count)) in
    let head = head_with t.0 in
    let text = head_from order t.0 b t.1 t.2 in
    let none : t.1 ≡ [] = nil_from_length t.1 (omega (arith, count, head_length order head b t.1 text)) in
    (head, subst (λ (l : List ℕ). RecordHeadText order head b l) none text)

reads_there : (limit : ℕ) (order : Order) (b : List ℕ) → length b ≡ 16 → (x : HeadReading Head) × HeadReads limit order b x
reads_there limit order b count =
    let t = head_there order b count in
    elim (cases_lt limit t.0.included) [
      | inl above ↦ (bad (Invalid IncludedTooLong), (t.0, t.1, above, refl))
      | inr below ↦ (good t.0, (t.1, below))
    ]

above_below : (limit : ℕ) (order : Order) (b a : List ℕ) (h k : Head) → RecordHeadText order h b a → h.included ≤ limit → RecordHeadText order k b a → limit < k.included → ⊥
above_below limit order b a h k x below y above =
    let e = head_same order h k b a a x y in
    let same : h.included ≡ k.included = ap (λ (z : Head). z.included) e.0 in
    omega (arith, same, below, above)

reads_only : (limit : ℕ) (order : Order) (b : List ℕ) (x y : HeadReading Head) → HeadReads limit order b x → HeadReads limit order b y → x ≡ y
reads_only limit order b (good h) (good k) x y = let e = head_same order h k b [] [] x.0 y.0 in ap good e.0
reads_only limit order b (good h) (bad f) x y = absurd (above_below limit order b [] h y.0 x.0 x.1 y.1 y.2)
reads_only limit order b (bad f) (good k) x y = absurd (above_below limit order b [] k x.0 y.0 y.1 x.1 x.2)
reads_only limit order b (bad f) (bad g) x y = let e : f ≡ g = x.3 ∙ sym y.3 in rw e refl

reads_one : (limit : ℕ) (order : Order) (b : List ℕ) → length b ≡ 16 → ExactlyOne (HeadReads limit order b)
reads_one limit order b count =
    let t = reads_there limit order b count in
    record { value = t.0; holds = t.1; only = λ other h. reads_only limit order b other t.0 h t.1 }

make_as_is : Head → Flaws → List ℕ → AsIs
make_as_is h f bytes = record { head = h; flaws = f; bytes = bytes }

as_is_is : (p q : AsIs) → p.head ≡ q.head → p.flaws ≡ q.flaws → p.bytes ≡ q.bytes → p ≡ q
unfolding make_as_is
as_is_is p q a b d = let t : make_as_is p.head p.flaws p.bytes ≡ make_as_is q.head q.flaws q.bytes = rw (a, b, d) refl in t

data_only : (r : TsResolution) (head : Head) (b : List ℕ) (x y : HeadReading AsIs) → DataReads r head b x → DataReads r head b y → x ≡ y
data_only r head b (good p) (good k) h j = ap good (as_is_is p k (h.0 ∙ sym j.0) (h.1 ∙ sym j.1) (h.2 ∙ sym j.2))
data_only r head b (good p) (bad f) h j = absurd j
data_only r head b (bad f) y h j = absurd h

data_one : (r : TsResolution) (head : Head) (b : List ℕ) → ExactlyOne (DataReads r head b)
data_one r head b =
    let packet : AsIs = record { head = head; flaws = flaws_of r head; bytes = b } in
    record { value = good packet; holds = (refl, refl, refl); only = λ other h. data_only r head b other (good packet) h (refl, refl, refl) }

headed_as_is_lawful : (limit : ℕ) (order : Order) (r : TsResolution) → IsLawful (headed (headed_as_is limit order r))
headed_as_is_lawful limit order r =
    let is : IsHeaded (headed_as_is limit order r) = record {
      some = λ q. omega arith;
      heads = λ q b count. reads_one limit order b count;
      bodies = λ q head b count. data_one r head b;
    } in
    headed_lawful (headed_as_is limit order r) is

-- ---- the readable definitions agree with those by a head and a body

module _ (limit : ℕ) (order : Order) (r : TsResolution) where
  good_piece : (h : Head) (s after : List ℕ) → RecordHeadText order h s after → h.included ≤ limit → Piece 16 (λ b. HeadReads limit order b (good h)) s after
  good_piece h s after t below =
      let p = head_piece order h s after t in
      record { bytes = p.bytes; text = p.text; length_is = p.length_is; holds = (p.holds, below) }

  good_again : (h : Head) (s after : List ℕ) → Piece 16 (λ b. HeadReads limit order b (good h)) s after → RecordHeadText order h s after
  good_again h s after p = head_again order h s p.bytes [] after p.text p.holds.0

  bad_piece : (f : Fault) (s : List ℕ) (t : HasLongHead limit order s f) → Piece 16 (λ b. HeadReads limit order b (bad f)) s t.after
  bad_piece f s t =
      let p = head_piece order t.head s t.after t.text in
      record { bytes = p.bytes; text = p.text; length_is = p.length_is; holds = (t.head, p.holds, t.above, t.fault_is) }

  as_is_to : (s : List ℕ) (v : Verdict AsIs) → AsIsSays limit order r s v → HeadedSays (headed_as_is limit order r) tt s v
  as_is_to s (whole packet rest) x =
      inr (inr (packet.head, x.after, good_piece packet.head s x.after x.text x.below, record { bytes = packet.bytes; text = x.data_is; length_is = x.whole; holds = (refl, x.flaws_are, refl) }))
  as_is_to s (lacks n) (inl x) = inl (x.some, x.missing)
  as_is_to s (lacks n) (inr x) = inr (inr (x.head, x.after, good_piece x.head s x.after x.text x.below, (x.some, x.missing)))
  as_is_to s (faulty f) x = inr (inl (x.after, bad_piece f s x))

  as_is_from : (s : List ℕ) (v : Verdict AsIs) → HeadedSays (headed_as_is limit order r) tt s v → AsIsSays limit order r s v
  as_is_from s (whole packet rest) (inl x) = absurd x
  as_is_from s (whole packet rest) (inr (inl x)) = absurd x
  as_is_from s (whole packet rest) (inr (inr x)) =
      let body = x.3 in
      let same : packet.head ≡ x.0 = body.holds.0 in
      record {
        after = x.1;
        text = subst (λ (h : Head). RecordHeadText order h s x.1) (sym same) (good_again x.0 s x.1 x.2);
        below = subst (λ (h : Head). h.included ≤ limit) (sym same) x.2.holds.1;
        flaws_are = body.holds.1 ∙ ap (flaws_of r) (sym same);
        data_is = body.text ∙ ap (λ (l : List ℕ). l ++ rest) (sym body.holds.2);
        whole = ap length body.holds.2 ∙ body.length_is ∙ ap (λ (h : Head). h.included) (sym same);
      }
  as_is_from s (lacks n) (inl x) = inl (record { some = x.0; missing = x.1 })
  as_is_from s (lacks n) (inr (inl x)) = absurd x
  as_is_from s (lacks n) (inr (inr x)) = inr (record { head = x.0; after = x.1; text = good_again x.0 s x.1 x.2; below = x.2.holds.1; some = x.3.0; missing = x.3.1 })
  as_is_from s (faulty f) (inl x) = absurd x
  as_is_from s (faulty f) (inr (inl x)) =
      let p = x.1 in
      record { head = p.holds.0; after = x.0; text = head_again order p.holds.0 s p.bytes [] x.0 p.text p.holds.1; above = p.holds.2; fault_is = p.holds.3 }
  as_is_from s (faulty f) (inr (inr x)) = absurd (x.3.1).holds

pub as_is_lawful : (limit : ℕ) (order : Order) (r : TsResolution) → IsLawful (as_is_format limit order r)
unfolding as_is_format
as_is_lawful limit order r =
    lawful_moved (headed (headed_as_is limit order r)) (as_is_format limit order r) (λ q. refl) (λ q s v. as_is_from limit order r s v) (λ q s v. as_is_to limit order r s v)
    (headed_as_is_lawful limit order r)

pub as_is_one : (limit : ℕ) (order : Order) (r : TsResolution) (s : List ℕ) → ExactlyOne (AsIsSays limit order r s)
unfolding as_is_format
as_is_one limit order r s = (as_is_lawful limit order r).one tt s

pub as_is_stable : (limit : ℕ) (order : Order) (r : TsResolution) → IsStable (AsIsSays limit order r)
unfolding as_is_format
as_is_stable limit order r = (as_is_lawful limit order r).stable tt

pub as_is_say : (limit : ℕ) (order : Order) (r : TsResolution) (s : List ℕ) (v : Verdict AsIs) → AsIsSays limit order r s v → (as_is_format limit order r).says tt s v
unfolding as_is_format
as_is_say limit order r s v x = x

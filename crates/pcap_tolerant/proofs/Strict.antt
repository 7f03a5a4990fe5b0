-- The answers of strict reading for bytes that are also read leniently.
use Rattle.std.proofs.Common.{◌≡◌, ◌≤◌, ℕ, Bool, true, false, cond, List, [], ◌∷◌, Option, Some, None, refl, sym, ap, subst, ◌∙◌, arith, inl, inr}
use Rattle.std.specs.Prelude.{◌⊎◌, nat_lt}
use Rattle.std.proofs.lemmas.Bool.{ltb-false, lt-ltb}
use Rattle.pcap_classic.specs.declared.common.TsResolution.{TsResolution}
use Rattle.pcap_core.specs.declared.rules.Rule.{Rule}
use Rattle.pcap_core.specs.declared.rules.Rule.TheVariants.{FractionTooLarge, IncludedTooLong, OriginalTooLong, IncludedPastOriginal}
use Rattle.pcap_core.specs.Answer.{Order, Verdict, whole, lacks, faulty}
use Rattle.pcap_core.specs.Faults.{Fault, Invalid}
use Rattle.pcap_classic.specs.PacketText.{packet_limit, Head, RecordHeadText, IsGood, head_fault, nanoseconds, spelled_header, Captured, PacketSays, LacksData, HasHeadFault}
use Rattle.pcap_classic.proofs.HeadedPackets.{packet_one}
use Rattle.pcap_tolerant.specs.AsIs.{flaws_of, rules_of, where_broken, AsIs, strict_of, AsIsText, LacksStored, HasLongHead, AsIsSays}
use Rattle.pcap_tolerant.specs.Strict.{MatchFirst, StrictIs}

-- ---- the first fault of a head is the first rule that it breaks

first_fault : List Rule → Option Fault
first_fault [] = None
first_fault (rule ∷ rules) = Some (Invalid rule)

first_is : (a b d e : Bool) →
    cond a (Some (Invalid FractionTooLarge)) (cond b (Some (Invalid IncludedTooLong)) (cond d (Some (Invalid OriginalTooLong)) (cond e (Some (Invalid IncludedPastOriginal)) None)))
    ≡ first_fault (where_broken a FractionTooLarge (where_broken b IncludedTooLong (where_broken d OriginalTooLong (where_broken e IncludedPastOriginal []))))
unfolding first_fault
first_is true b d e = refl
first_is false true d e = refl
first_is false false true e = refl
first_is false false false true = refl
first_is false false false false = refl

head_first : (r : TsResolution) (head : Head) → head_fault packet_limit r head ≡ first_fault (rules_of (flaws_of r head))
head_first r head = first_is (nat_lt 4294967295 (nanoseconds r head.fraction)) (nat_lt packet_limit head.included) (nat_lt packet_limit head.original) (nat_lt head.original head.included)

-- No rule is broken: each of the four tests fails.
none_broken : (a b d e : Bool) → where_broken a FractionTooLarge (where_broken b IncludedTooLong (where_broken d OriginalTooLong (where_broken e IncludedPastOriginal []))) ≡ []
    → (a ≡ false) × (b ≡ false) × (d ≡ false) × (e ≡ false)
none_broken false false false false x = (refl, refl, refl, refl)
none_broken _ _ _ _ x = absurd cc

unflawed_good : (r : TsResolution) (head : Head) → rules_of (flaws_of r head) ≡ [] → IsGood packet_limit r head
unflawed_good r head x =
    let n = none_broken (nat_lt 4294967295 (nanoseconds r head.fraction)) (nat_lt packet_limit head.included) (nat_lt packet_limit head.original) (nat_lt head.original head.included) x in
    record { fraction = ltb-false _ _ n.0; included = ltb-false _ _ n.3; original = ltb-false _ _ n.2 }

list_cases : (l : List Rule) → (l ≡ []) ⊎ ((rule : Rule) × (rules : List Rule) × (l ≡ rule ∷ rules))
list_cases [] = inl refl
list_cases (rule ∷ rules) = inr (rule, rules, refl)

flawed_fault : (order : Order) (r : TsResolution) (head : Head) (s after : List ℕ) (rule : Rule) (rules : List Rule) → RecordHeadText order head s after → rules_of (flaws_of r head) ≡ rule ∷ rules → HasHeadFault packet_limit order r s (Invalid rule)
unfolding first_fault
flawed_fault order r head s after rule rules text x = record { head = head; after = after; text = text; first = head_first r head ∙ ap first_fault x }

-- ---- the strict answer

abbrev There : Order → TsResolution → List ℕ → Verdict AsIs → Type 0
There order r s a = (v : Verdict Captured) × PacketSays packet_limit order r s v × StrictIs order r s a v

match_first : (rules : List Rule) (N : Type 0) (F : Rule → Type 0) → rules ≡ [] → N → MatchFirst rules N F
match_first rules N F e n = subst (λ (l : List Rule). MatchFirst l N F) (sym e) n

match_rule : (rules more : List Rule) (rule : Rule) (N : Type 0) (F : Rule → Type 0) → rules ≡ rule ∷ more → F rule → MatchFirst rules N F
match_rule rules more rule N F e n = subst (λ (l : List Rule). MatchFirst l N F) (sym e) n

module _ (limit : ℕ) (order : Order) (r : TsResolution) where
  whole_there : (s rest : List ℕ) (p : AsIs) → AsIsText limit order r p s rest → There order r s (whole p rest)
  whole_there s rest p x =
      let same : rules_of p.flaws ≡ rules_of (flaws_of r p.head) = ap rules_of x.flaws_are in
      elim (list_cases (rules_of p.flaws)) [
        | inl none ↦
            let good = unflawed_good r p.head (sym same ∙ none) in (
              whole (strict_of r p) rest,
              record { after = x.after; header = record { head = p.head; text = x.text; good = good; value = refl }; data_is = x.data_is; whole = x.whole },
              match_first (rules_of p.flaws) (whole (strict_of r p) rest ≡ whole (strict_of r p) rest) (λ rule. whole (strict_of r p) rest ≡ faulty (Invalid rule)) none refl,
            )
        | inr some ↦ (
          faulty (Invalid some.0),
          flawed_fault order r p.head s x.after some.0 some.1 x.text (sym same ∙ some.2),
          match_rule (rules_of p.flaws) some.1 some.0 (faulty (Invalid some.0) ≡ whole (strict_of r p) rest) (λ rule. ◌≡◌ {A = Verdict Captured} (faulty (Invalid some.0)) (faulty (Invalid rule))) some.2 refl,
        )
      ]

  stored_there : (s : List ℕ) (n : ℕ) → LacksStored limit order s n → There order r s (lacks n)
  stored_there s n x =
      elim (list_cases (rules_of (flaws_of r x.head))) [
        | inl none ↦
            let lack : LacksData packet_limit order r s n = record {
              header = spelled_header r x.head;
              after = x.after;
              text = record { head = x.head; text = x.text; good = unflawed_good r x.head none; value = refl };
              some = x.some;
              missing = x.missing;
            } in
            (lacks n, inr lack, inl refl)
        | inr some ↦
            let v : Verdict Captured = faulty (Invalid some.0) in
            let First : Rule → Type 0 = λ rule. v ≡ faulty (Invalid rule) in
            let first = match_rule (rules_of (flaws_of r x.head)) some.1 some.0 ⊥ First some.2 refl in
            (v, flawed_fault order r x.head s x.after some.0 some.1 x.text some.2, inr (record { head = x.head; after = x.after; text = x.text; first = first }))
      ]

  long_rule : (s : List ℕ) (f : Fault) (x : HasLongHead limit order s f) (a : Bool) → nat_lt 4294967295 (nanoseconds r x.head.fraction) ≡ a → nat_lt packet_limit x.head.included ≡ true → There order r s (faulty f)
  long_rule s f x true e above =
      let fault : HasHeadFault packet_limit order r s (Invalid FractionTooLarge) = record { head = x.head; after = x.after; text = x.text; first = rw e refl } in
      (faulty (Invalid FractionTooLarge), fault, inl refl)
  long_rule s f x false e above =
      let fault : HasHeadFault packet_limit order r s (Invalid IncludedTooLong) = record { head = x.head; after = x.after; text = x.text; first = rw (e, above) refl } in
      (faulty (Invalid IncludedTooLong), fault, inr refl)

  long_there : packet_limit ≤ limit → (s : List ℕ) (f : Fault) → HasLongHead limit order s f → There order r s (faulty f)
  long_there le s f x =
      let above : nat_lt packet_limit x.head.included ≡ true = lt-ltb _ _ (omega (arith, le, x.above)) in
      long_rule s f x (nat_lt 4294967295 (nanoseconds r x.head.fraction)) refl above

  strict_there : packet_limit ≤ limit → (s : List ℕ) (a : Verdict AsIs) → AsIsSays limit order r s a → There order r s a
  strict_there le s (whole p rest) x = whole_there s rest p x
  strict_there le s (lacks n) (inl x) = (lacks n, inl x, inl refl)
  strict_there le s (lacks n) (inr x) = stored_there s n x
  strict_there le s (faulty f) x = long_there le s f x

  pub strict_is : packet_limit ≤ limit → (s : List ℕ) (a : Verdict AsIs) (v : Verdict Captured) → AsIsSays limit order r s a → PacketSays packet_limit order r s v → StrictIs order r s a v
  strict_is le s a v x y =
      let t = strict_there le s a x in
      let one = packet_one packet_limit order r s in
      subst (λ (w : Verdict Captured). StrictIs order r s a w) (one.only t.0 t.1 ∙ sym (one.only v y)) t.2

-- Lemmas on counting one more packet.
use Rattle.std.proofs.Common.{◌≡◌, ◌<◌, ◌+◌, ◌≤◌, ◌↔◌, ◌++◌, ◌∷◌, [], ℕ, List, Bool, IsTrue, true, false, true≢false, cond, get_or, Option, None, Some, length, inl, inr, refl, sym, ap, ◌∙◌, subst, arith, length-append, append-nil, replicate}
use Rattle.std.specs.Prelude.{All, Contains, count_by, filter, sum_by, slice_index, slice_set}
use Rattle.std.proofs.lemmas.Bool.{cases_eq, eq-eqb, ne_eqb}
use Rattle.std.proofs.lemmas.List.{get_or-replicate, get_or-set_same, get_or-set_other, get_or_append_left, get_or_push, map-append}
use Rattle.std.proofs.lemmas.List.Elements.{All-get_or, All-push, All-nil, All-weaker, Contains-append_left, Contains-push, filter_map-append, filter-append}
use Rattle.std.proofs.lemmas.List.Quantifiers.{all_pairs_push}
use Rattle.std.proofs.lemmas.List.Sums.{sum_by_push, length-filter}
use Rattle.pcap_times.specs.declared.clock.Timestamp.{Timestamp}
use Rattle.pcapfile_run.specs.Passing.{counted}
use Rattle.pcapfile_info.specs.declared.seen.Seen.{Seen}
use Rattle.pcapfile_info.specs.declared.spread.Spread.{Spread}
use Rattle.pcapfile_info.specs.declared.tally.Tally.{Tally}
use Rattle.pcapfile_info.specs.Tallies.{AreInOrder, instant_of, instants_of, IsAfter, IsBefore, IsFirst, IsFirstOf, IsFirstWith, IsOrderOf, IsOrderWith, IsSpread, IsSpreadWith, no_tally, Tallies, times_of, size_class, is_of_class}

-- A saturated count continues from where it was.
pub counted_push : (a n k : ℕ) → a ≡ counted n → counted (a + k) ≡ counted (n + k)
counted_push a n k e = omega (arith, e)

-- Times are ordered.
before_itself : (t : Timestamp) → IsBefore t t → ⊥
before_itself t before = grind (arith, before)

before_both : (s t : Timestamp) → IsBefore s t → IsBefore t s → ⊥
before_both s t one other = grind (arith, one, other)

before_later : (s t u : Timestamp) → IsBefore s t → (IsBefore u t → ⊥) → IsBefore s u
before_later s t u one none = grind (arith, one, none)

after_later : (s t u : Timestamp) → IsAfter s t → (IsAfter u t → ⊥) → IsAfter s u
after_later s t u one none = grind (arith, one, none)

-- The first time after one more time or one more packet.
module _ (Comes : Timestamp → Timestamp → Type 0) (itself : (t : Timestamp) → Comes t t → ⊥) (both : (s t : Timestamp) → Comes s t → Comes t s → ⊥) (later : (s t u : Timestamp) → Comes s t → (Comes u t → ⊥) → Comes s u) where
  first_push : (times : List Timestamp) (known : Option Timestamp) (time first : Timestamp) → IsFirst Comes times known → IsFirstOf Comes known time first → IsFirst Comes (times ++ time ∷ []) (Some first)
  first_push times None time first none is =
      subst (λ (t : Timestamp). Contains (times ++ time ∷ []) t × All (λ s. Comes s t → ⊥) (times ++ time ∷ [])) (sym is)
      (Contains-push times time, All-push (λ s. Comes s time → ⊥) times time (subst (λ (l : List Timestamp). All (λ s. Comes s time → ⊥) l) (sym none) (All-nil (λ s. Comes s time → ⊥))) (itself time))
  first_push times (Some known) time first (among, before_none) is = elim is [
    | inl (comes, same) ↦
        subst (λ (t : Timestamp). Contains (times ++ time ∷ []) t × All (λ s. Comes s t → ⊥) (times ++ time ∷ [])) (sym same)
        (Contains-append_left times (time ∷ []) known among, All-push (λ s. Comes s known → ⊥) times time before_none (λ after. both known time comes after))
    | inr (not, same) ↦
        subst (λ (t : Timestamp). Contains (times ++ time ∷ []) t × All (λ s. Comes s t → ⊥) (times ++ time ∷ [])) (sym same) (
          Contains-push times time,
          All-push (λ s. Comes s time → ⊥) times time (All-weaker (λ s. Comes s known → ⊥) (λ s. Comes s time → ⊥) (λ s none comes. none (later s time known comes not)) times before_none) (itself time),
        )
  ]

  first_behind : (packets : List Seen) (known : Option Timestamp) (seen : Seen) (time first : Option Timestamp) → seen.time ≡ time → IsFirst Comes (times_of packets) known → IsFirstWith Comes known time first
      → IsFirst Comes (times_of (packets ++ seen ∷ [])) first
  first_behind packets known seen None first is before with =
      rw (with, filter_map-append (λ (p : Seen). p.time) packets (seen ∷ []), is, append-nil (times_of packets)) before
  first_behind packets known seen (Some time) None is before with = absurd with
  first_behind packets known seen (Some time) (Some first) is before with =
      rw (filter_map-append (λ (p : Seen). p.time) packets (seen ∷ []), is) (first_push (times_of packets) known time first before with)

-- At most one time is in order.
in_order_alone : (times : List Timestamp) → length times ≤ 1 → AreInOrder times
in_order_alone times few = λ i j d lt within. absurd (omega (arith, few, lt, within))

-- The front of times that are in order.
in_order_front : (times : List Timestamp) (time : Timestamp) → AreInOrder (times ++ time ∷ []) → AreInOrder times
in_order_front times time ordered = λ i j d lt within.
    let all = times ++ time ∷ [] in
    let one : get_or all i d ≡ get_or times i d = get_or_append_left times (time ∷ []) d i (omega (arith, lt, within)) in
    let other : get_or all j d ≡ get_or times j d = get_or_append_left times (time ∷ []) d j within in
    subst (λ (t : Timestamp). IsBefore t (get_or times i d) → ⊥) other
    (subst (λ (t : Timestamp). IsBefore (get_or all j d) t → ⊥) one (ordered i j d lt (omega (arith, within, length-append times (time ∷ [])))))

-- Times are not in order with one more that is before the latest.
out_of_order : (times : List Timestamp) (latest time : Timestamp) → Contains times latest → IsBefore time latest → AreInOrder (times ++ time ∷ []) → ⊥
out_of_order times latest time (k, within, at) before ordered =
    let all = times ++ time ∷ [] in
    let low : get_or all k latest ≡ latest = get_or_append_left times (time ∷ []) latest k within ∙ at in
    let high : get_or all (length times) latest ≡ time = get_or_push times time latest (length times) refl in
    ordered k (length times) latest within (omega (arith, length-append times (time ∷ [])))
    (subst (λ (t : Timestamp). IsBefore t (get_or all k latest)) (sym high) (subst (λ (t : Timestamp). IsBefore time t) (sym low) before))

order_push : (times : List Timestamp) (known : Option Timestamp) (time : Timestamp) (old new : Bool) → IsFirst IsAfter times known → IsOrderOf known time old new → (IsTrue old ↔ AreInOrder times)
    → (IsTrue new ↔ AreInOrder (times ++ time ∷ []))
order_push times None time old new none is before = (
  λ yes. in_order_alone (times ++ time ∷ []) (omega (arith, ap length none, length-append times (time ∷ []))),
  λ ordered. is ∙ before.1 (in_order_alone times (omega (arith, ap length none))),
)
order_push times (Some latest) time old new (among, none_after) is before = elim is [
  | inl (comes, off) ↦ (λ yes. absurd (true≢false (sym yes ∙ off)), λ ordered. absurd (out_of_order times latest time among comes ordered))
  | inr (not, same) ↦ (
    λ yes. all_pairs_push (λ earlier later. IsBefore later earlier → ⊥) times time (before.0 (sym same ∙ yes))
        (λ k d less comes. not (before_later time (get_or times k d) latest comes (All-get_or (λ t. IsAfter t latest → ⊥) times k d less none_after))),
    λ ordered. same ∙ before.1 (in_order_front times time ordered),
  )
]

-- Whether times are in order after one more packet.
module _ (packets : List Seen) (known : Option Timestamp) (old new : Bool) where
  order_behind : (seen : Seen) (time : Option Timestamp) → seen.time ≡ time → IsFirst IsAfter (times_of packets) known → (IsTrue old ↔ AreInOrder (times_of packets)) → IsOrderWith known time old new
      → (IsTrue new ↔ AreInOrder (times_of (packets ++ seen ∷ [])))
  order_behind seen None is latest before with =
      rw (with, filter_map-append (λ (p : Seen). p.time) packets (seen ∷ []), is, append-nil (times_of packets)) before
  order_behind seen (Some time) is latest before with =
      rw (filter_map-append (λ (p : Seen). p.time) packets (seen ∷ []), is) (order_push (times_of packets) known time old new latest with before)

-- The spread after one more packet.
module _ (packets : List Seen) (known spread : Option Spread) where
  spread_behind : (seen : Seen) (time : Option Timestamp) → seen.time ≡ time → IsSpread (instants_of packets) known → IsSpreadWith known time spread → IsSpread (instants_of (packets ++ seen ∷ [])) spread
  spread_behind seen None is before with =
      rw (with, filter_map-append (λ (p : Seen). p.time) packets (seen ∷ []), is, append-nil (times_of packets)) before
  spread_behind seen (Some time) is before with =
      rw (filter_map-append (λ (p : Seen). p.time) packets (seen ∷ []), is, map-append instant_of (times_of packets) (time ∷ [])) (with (instants_of packets) before)

-- One more element is one of a class or none.
one_or_none : {X : Type 0} (x : X) (b : Bool) → length (cond b (x ∷ []) []) ≡ cond b 1 0
one_or_none x true = refl
one_or_none x false = refl

pub count_push : {X : Type 0} (p : X → Bool) (xs : List X) (x : X) → count_by p (xs ++ x ∷ []) ≡ count_by p xs + cond (p x) 1 0
count_push p xs x =
    sym (length-filter p (xs ++ x ∷ [])) ∙ ap length (filter-append p xs (x ∷ [])) ∙ length-append (filter p xs) (filter p (x ∷ []))
    ∙ ap (λ (n : ℕ). n + length (filter p (x ∷ []))) (length-filter p xs) ∙ ap (λ (n : ℕ). count_by p xs + n) (one_or_none x (p x))

pub sizes_push : (old new : List ℕ) (packets : List Seen) (seen : Seen) (class more : ℕ) → class ≡ size_class seen.original → class < 10 → length old ≡ 10
    → more ≡ counted (slice_index old class + 1) → new ≡ slice_set old class more
    → ((k : ℕ) → k < 10 → slice_index old k ≡ counted (count_by (is_of_class k) packets))
    → (k : ℕ) → k < 10 → slice_index new k ≡ counted (count_by (is_of_class k) (packets ++ seen ∷ []))
sizes_push old new packets seen class more is within long is_more is_new before k less =
    let pushed = count_push (is_of_class k) packets seen in
    elim (cases_eq k class) [
      | inl same ↦
          let one : is_of_class k seen ≡ true = eq-eqb (size_class seen.original) k (sym is ∙ sym same) in
          let there : slice_index new k ≡ more = ap (λ (l : List ℕ). slice_index l k) is_new ∙ ap (λ (i : ℕ). slice_index (slice_set old class more) i) same ∙ get_or-set_same old class more 0 (omega (arith, long, within)) in
          let counts : count_by (is_of_class k) (packets ++ seen ∷ []) ≡ count_by (is_of_class k) packets + 1 = pushed ∙ ap (λ (b : Bool). count_by (is_of_class k) packets + cond b 1 0) one in
          there ∙ is_more ∙ counted_push (slice_index old class) (count_by (is_of_class k) packets) 1 (ap (slice_index old) (sym same) ∙ before k less) ∙ ap counted (sym counts)
      | inr other ↦
          let none : is_of_class k seen ≡ false = ne_eqb (size_class seen.original) k (λ at. other (sym at ∙ sym is)) in
          let there : slice_index new k ≡ slice_index old k = ap (λ (l : List ℕ). slice_index l k) is_new ∙ get_or-set_other old class k more 0 other in
          let counts : count_by (is_of_class k) (packets ++ seen ∷ []) ≡ count_by (is_of_class k) packets + 0 = pushed ∙ ap (λ (b : Bool). count_by (is_of_class k) packets + cond b 1 0) none in
          there ∙ before k less ∙ ap counted (omega (arith, counts))
    ]

pub tally_push : (packets : List Seen) (seen : Seen) (old new : Tally) → Tallies packets old → new.packets ≡ counted (old.packets + 1) → new.stored ≡ counted (old.stored + seen.stored)
    → new.original ≡ counted (old.original + seen.original) → IsFirstWith IsBefore old.earliest seen.time new.earliest → IsFirstWith IsAfter old.latest seen.time new.latest → IsOrderWith old.latest seen.time old.in_order new.in_order → IsSpreadWith old.spread seen.time new.spread
    → ((k : ℕ) → k < 10 → slice_index new.sizes k ≡ counted (count_by (is_of_class k) (packets ++ seen ∷ []))) → Tallies (packets ++ seen ∷ []) new
tally_push packets seen old new before number stored original earliest latest order spread sizes = record {
  number = number ∙ counted_push old.packets (length packets) 1 before.number ∙ ap counted (sym (length-append packets (seen ∷ [])));
  stored = stored ∙ counted_push old.stored (sum_by (λ p. p.stored) packets) seen.stored before.stored ∙ ap counted (sym (sum_by_push (λ (p : Seen). p.stored) packets seen));
  original = original ∙ counted_push old.original (sum_by (λ p. p.original) packets) seen.original before.original ∙ ap counted (sym (sum_by_push (λ (p : Seen). p.original) packets seen));
  earliest = first_behind IsBefore before_itself before_both before_later packets old.earliest seen seen.time new.earliest refl before.earliest earliest;
  latest = first_behind IsAfter before_itself (λ s t one other. before_both s t other one) after_later packets old.latest seen seen.time new.latest refl before.latest latest;
  in_order = order_behind packets old.latest old.in_order new.in_order seen seen.time refl before.latest before.in_order order;
  sizes = sizes;
  spread = spread_behind packets old.spread new.spread seen seen.time refl before.spread spread;
}

none_of_class : (class : ℕ) → class < 10 → slice_index (replicate 10 0) class ≡ counted (count_by (is_of_class class) [])
none_of_class class less = get_or-replicate 10 class 0 0 less

-- The counts of no packets are those of an empty list.
pub nothing_tallied : Tallies [] no_tally
nothing_tallied = record { number = refl; stored = refl; original = refl; earliest = refl; latest = refl; in_order = (λ yes. in_order_alone [] (omega arith), λ ordered. refl); sizes = none_of_class; spread = refl }

-- Entries lead to the records that they are of, in any order.
use Rattle.std.proofs.Common.{◌≡◌, ◌<◌, ◌+◌, ◌==◌, ◌&&◌, ℕ, List, [], ◌∷◌, ◌++◌, length, take, drop, map, get_or, Bool, true, false, cond, not, ltb, inl, inr, refl, sym, ap, ◌∙◌, subst, arith, append_assoc, length-append, is_lt, nat_cmp, Less, Equal, Greater, eq-eqb, ne_eqb, lt-ltb, le-ltb}
use Rattle.std.specs.Prelude.{All, filter}
use Rattle.std.specs.List.Sorted.{ties}
use Rattle.std.proofs.lemmas.Bool.{cases_lt}
use Rattle.std.proofs.lemmas.List.{drop_at, take_at, get_or-map, length-map}
use Rattle.std.proofs.lemmas.List.Elements.{All-nil, All-cons, All-head, All-tail, filter_agree}
use Rattle.std.proofs.lemmas.List.Sorted.{IsPermutation-map}
use Rattle.pcap_items.proofs.Formats.{cons_same}
use Rattle.pcapfile_sort.specs.declared.entry.Entry.{Entry}
use Rattle.pcapfile_sort.specs.Again.{IsAt}
use Rattle.pcapfile_sort.specs.Entries.{AreInOrder, entry_of, entries_of, led_to}
use Rattle.pcapfile_sort.specs.Order.{IsInOrder}
use Rattle.pcapfile_sort.specs.Ranked.{Ranked, texts_of}
use Rattle.pcapfile_sort.proofs.PacketRecords.{ranked_same}

-- The part of these bytes at a place.
pub part_at : (place n : ℕ) (part bytes : List ℕ) → IsAt place part bytes → n ≡ length part → take n (drop place bytes) ≡ part
part_at place n part bytes there long =
    ap (λ (l : List ℕ). take n (drop place l)) there.split ∙ ap (take n) (drop_at there.before (part ++ there.after) place there.place_is) ∙ take_at part there.after n (sym long)

-- The entry leads to its record, which is at its place and has its length.
pub record LeadsTo (Is : Ranked → Type 0) (all : List ℕ) (entry : Entry) : Type 0 where
  pub ranked : Is (led_to all entry)
  pub long : length (led_to all entry).text ≡ entry.length
  pub there : IsAt entry.place (led_to all entry).text all

led_one : (all front : List ℕ) (ranked : Ranked) (others : List ℕ) (place : ℕ) → all ≡ front ++ (ranked.text ++ others) → place ≡ length front → led_to all (entry_of place ranked) ≡ ranked
led_one all front ranked others place split placed =
    let there : IsAt place ranked.text all = record { before = front; after = others; split = split; place_is = sym placed } in
    ranked_same (led_to all (entry_of place ranked)) ranked refl (part_at place (length ranked.text) ranked.text all there refl)

further : (front text others : List ℕ) (all : List ℕ) → all ≡ front ++ (text ++ others) → all ≡ (front ++ text) ++ others
further front text others all split = split ∙ sym (append_assoc front text others)

-- Each entry of records leads to its record.
pub led_all : (all front : List ℕ) (records : List Ranked) (place : ℕ) → all ≡ front ++ texts_of records → place ≡ length front → map (led_to all) (entries_of place records) ≡ records
led_all all front [] place split placed = refl
led_all all front (ranked ∷ others) place split placed =
    let rest = led_all all (front ++ ranked.text) others (place + length ranked.text) (further front ranked.text (texts_of others) all split) (omega (arith, placed, length-append front ranked.text)) in
    cons_same (led_to all (entry_of place ranked)) ranked (map (led_to all) (entries_of (place + length ranked.text) others)) others (led_one all front ranked (texts_of others) place split placed) rest

pub leads_all : (Is : Ranked → Type 0) (all front : List ℕ) (records : List Ranked) (place : ℕ) → all ≡ front ++ texts_of records → place ≡ length front → All Is records → All (LeadsTo Is all) (entries_of place records)
leads_all Is all front [] place split placed each = All-nil (LeadsTo Is all)
leads_all Is all front (ranked ∷ others) place split placed each =
    let same = led_one all front ranked (texts_of others) place split placed in
    let here : IsAt place ranked.text all = record { before = front; after = texts_of others; split = split; place_is = sym placed } in
    let entry = entry_of place ranked in
    let first : LeadsTo Is all entry = record {
      ranked = subst Is (sym same) (All-head Is ranked others each);
      long = ap (λ (t : Ranked). length t.text) same;
      there = subst (λ (t : Ranked). IsAt place t.text all) (sym same) here;
    } in
    let rest = leads_all Is all (front ++ ranked.text) others (place + length ranked.text) (further front ranked.text (texts_of others) all split) (omega (arith, placed, length-append front ranked.text))
    (All-tail Is ranked others each) in
    All-cons (LeadsTo Is all) entry (entries_of (place + length ranked.text) others) first rest

-- ---- the order of records is that of their entries

cmp_ltb : (a b : ℕ) → is_lt (nat_cmp a b) ≡ ltb a b
cmp_ltb a b =
    elim (ltb a b) as (λ t. is_lt (cond t Less (cond (a == b) Equal Greater)) ≡ t) [ true ↦ refl | false ↦ elim (a == b) as (λ u. is_lt (cond u Equal Greater) ≡ false) [ true ↦ refl | false ↦ refl ] ]

-- Numbers of which neither is less are the same.
ties_same : (t y : ℕ) → not (ltb t y) && not (ltb y t) ≡ (y == t)
ties_same t y = elim (cases_lt t y) [
  | inl less ↦
      let a : ltb t y ≡ true = lt-ltb t y less in
      let b : (y == t) ≡ false = ne_eqb y t (λ (is : y ≡ t). omega (arith, is, less)) in
      rw (a, b) refl
  | inr most ↦ elim (cases_lt y t) [
    | inl less ↦
        let a : ltb t y ≡ false = le-ltb t y most in
        let b : ltb y t ≡ true = lt-ltb y t less in
        let d : (y == t) ≡ false = ne_eqb y t (λ (is : y ≡ t). omega (arith, is, less)) in
        rw (a, b, d) refl
    | inr least ↦
        let a : ltb t y ≡ false = le-ltb t y most in
        let b : ltb y t ≡ false = le-ltb y t least in
        let d : (y == t) ≡ true = eq-eqb y t (omega (arith, most, least)) in
        rw (a, b, d) refl
  ]
]

filter_mapped : {A B : Type 0} (f : A → B) (p : B → Bool) (xs : List A) → filter p (map f xs) ≡ map f (filter (λ (x : A). p (f x)) xs)
filter_mapped f p [] = refl
filter_mapped f p (x ∷ xs) =
    let deeper = filter_mapped f p xs in
    elim (p (f x)) as (λ b. cond b (f x ∷ filter p (map f xs)) (filter p (map f xs)) ≡ map f (cond b (x ∷ filter (λ y. p (f y)) xs) (filter (λ y. p (f y)) xs))) [
      | true ↦ ap (λ l. f x ∷ l) deeper
      | false ↦ deeper
    ]

-- The entries of one rank keep their order.
entries_stable : (entries sorted : List Entry) → AreInOrder entries sorted → (rank : ℕ) → filter (λ (entry : Entry). entry.rank == rank) sorted ≡ filter (λ (entry : Entry). entry.rank == rank) entries
entries_stable entries sorted order rank =
    let x : Entry = record { rank = rank; place = 0; length = 0 } in
    let lt : Entry → Entry → Bool = λ a b. is_lt (nat_cmp a.rank b.rank) in
    let p : Entry → Bool = ties lt x in
    let q : Entry → Bool = λ entry. entry.rank == rank in
    let agree : (y : Entry) → p y ≡ q y = λ y. ap (λ (b : Bool). not b && not (is_lt (nat_cmp y.rank rank))) (cmp_ltb rank y.rank) ∙ ap (λ (b : Bool). not (ltb rank y.rank) && not b) (cmp_ltb y.rank rank) ∙ ties_same rank y.rank in
    sym (filter_agree p q agree sorted) ∙ order.stable x ∙ filter_agree p q agree entries

-- The records to which entries in order lead are in order.
pub led_in_order : (all : List ℕ) (entries sorted : List Entry) → AreInOrder entries sorted → IsInOrder (map (led_to all) entries) (map (led_to all) sorted)
led_in_order all entries sorted order = record {
  same = IsPermutation-map (led_to all) entries sorted order.same;
  ordered = λ i j d le lt.
      let e : Entry = record { rank = 0; place = 0; length = 0 } in
      let within : j < length sorted = omega (arith, lt, length-map sorted (led_to all)) in
      let first : (get_or (map (led_to all) sorted) i d).rank ≡ (get_or sorted i e).rank = ap (λ (t : Ranked). t.rank) (get_or-map (led_to all) sorted i e d (omega (arith, le, within))) in
      let second : (get_or (map (led_to all) sorted) j d).rank ≡ (get_or sorted j e).rank = ap (λ (t : Ranked). t.rank) (get_or-map (led_to all) sorted j e d within) in
      omega (arith, first, second, order.ordered i j e le within);
  stable = λ rank.
      let p : Ranked → Bool = λ ranked. ranked.rank == rank in
      filter_mapped (led_to all) p sorted ∙ ap (map (led_to all)) (entries_stable entries sorted order rank) ∙ sym (filter_mapped (led_to all) p entries);
}

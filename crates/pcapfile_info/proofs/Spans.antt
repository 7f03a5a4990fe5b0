-- Lemmas on instants in spans.
use Rattle.std.proofs.Common.{◌≡◌, ◌<◌, ◌≤◌, ◌+◌, ◌-◌, ◌*◌, ◌/◌, ◌%◌, ◌^◌, ◌⊎◌, ◌++◌, ◌∷◌, [], ℕ, List, Bool, true, false, cond, length, min, max, replicate, inl, inr, refl, sym, ap, ◌∙◌, arith}
use Rattle.std.specs.Prelude.{All, Contains, count_by, slice_index, slice_set, ◌==◌}
use Rattle.std.proofs.Math.Nat.{div-div-eq-div-mul, div-mul-le_self, div-one, mul-le-mul_right}
use Rattle.std.proofs.lemmas.Bool.{cases_eq, cases_lt, eq-eqb, ne_eqb}
use Rattle.std.proofs.lemmas.List.{get_or-replicate, get_or-set_same, get_or-set_other}
use Rattle.std.proofs.lemmas.List.Elements.{All-push, All-nil, All-head, All-tail, All-weaker, Contains-append_left, Contains-push}
use Rattle.std.proofs.lemmas.List.Sums.{sum_by-cons}
use Rattle.pcapfile_run.specs.Passing.{counted}
use Rattle.pcapfile_info.specs.declared.spread.Spread.{Spread}
use Rattle.pcapfile_info.specs.Spreads.{HasRoom, IsFine, is_at, lies_in, Rows, Spreads}
use Rattle.pcapfile_info.proofs.Tallying.{count_push, counted_push}

-- The count over a list is the count of its first element and of the others.
count_cons : {X : Type 0} (p : X → Bool) (x : X) (xs : List X) → count_by p (x ∷ xs) ≡ cond (p x) 1 0 + count_by p xs
count_cons p x xs = sum_by-cons (λ y. cond (p y) 1 0) x xs

-- Two tests that agree on each element count the same.
count_same : {X : Type 0} (p q : X → Bool) (xs : List X) → All (λ x. p x ≡ q x) xs → count_by p xs ≡ count_by q xs
count_same p q [] same = refl
count_same p q (x ∷ xs) same =
    let first : p x ≡ q x = All-head (λ x. p x ≡ q x) x xs same in
    let others : count_by p xs ≡ count_by q xs = count_same p q xs (All-tail (λ x. p x ≡ q x) x xs same) in
    count_cons p x xs ∙ ap (λ (b : Bool). cond b 1 0 + count_by p xs) first ∙ ap (λ (n : ℕ). cond (q x) 1 0 + n) others ∙ sym (count_cons q x xs)

count_none : {X : Type 0} (p : X → Bool) (xs : List X) → All (λ x. p x ≡ false) xs → count_by p xs ≡ 0
count_none p [] none = refl
count_none p (x ∷ xs) none =
    let first : p x ≡ false = All-head (λ x. p x ≡ false) x xs none in
    let one : cond {A = ℕ} (p x) 1 0 ≡ cond false 1 0 = ap (λ (b : Bool). cond {A = ℕ} b 1 0) first in
    omega (arith, count_cons p x xs, one, count_none p xs (All-tail (λ x. p x ≡ false) x xs none))

-- A span of twice the width is two spans.
half_one : (q c : ℕ) → cond (q / 2 == c) 1 0 ≡ cond (q == c * 2) 1 0 + cond (q == c * 2 + 1) 1 0
half_one q c = elim (cases_eq q (c * 2)) [
  | inl even ↦
      let half : (q / 2 == c) ≡ true = eq-eqb (q / 2) c (omega (arith, even)) in
      let one : (q == c * 2) ≡ true = eq-eqb q (c * 2) even in
      let other : (q == c * 2 + 1) ≡ false = ne_eqb q (c * 2 + 1) (λ at. omega (arith, at, even)) in
      rw (half, one, other) refl
  | inr uneven ↦ elim (cases_eq q (c * 2 + 1)) [
    | inl odd ↦
        let half : (q / 2 == c) ≡ true = eq-eqb (q / 2) c (omega (arith, odd)) in
        let one : (q == c * 2) ≡ false = ne_eqb q (c * 2) uneven in
        let other : (q == c * 2 + 1) ≡ true = eq-eqb q (c * 2 + 1) odd in
        rw (half, one, other) refl
    | inr neither ↦
        let half : (q / 2 == c) ≡ false = ne_eqb (q / 2) c (λ at. omega (arith, at, uneven, neither)) in
        let one : (q == c * 2) ≡ false = ne_eqb q (c * 2) uneven in
        let other : (q == c * 2 + 1) ≡ false = ne_eqb q (c * 2 + 1) neither in
        rw (half, one, other) refl
  ]
]

pub count_both : (w c : ℕ) (xs : List ℕ) → count_by (lies_in (w * 2) c) xs ≡ count_by (lies_in w (c * 2)) xs + count_by (lies_in w (c * 2 + 1)) xs
count_both w c [] = refl
count_both w c (x ∷ xs) =
    let head : cond (x / (w * 2) == c) 1 0 ≡ cond (x / w == c * 2) 1 0 + cond (x / w == c * 2 + 1) 1 0 =
    ap (λ (q : ℕ). cond (q == c) 1 0) (sym (div-div-eq-div-mul x w 2)) ∙ half_one (x / w) c in
    omega (arith, head, count_both w c xs, count_cons (lies_in (w * 2) c) x xs, count_cons (lies_in w (c * 2)) x xs, count_cons (lies_in w (c * 2 + 1)) x xs)

-- Spans less than 64 apart have different remainders.
near_same : (a b first last : ℕ) → first ≤ a → a ≤ last → first ≤ b → b ≤ last → last < first + 64 → (a % 64 == b % 64) ≡ (a == b)
near_same a b first last one two three four few = elim (cases_eq a b) [
  | inl same ↦ eq-eqb (a % 64) (b % 64) (ap (λ (n : ℕ). n % 64) same) ∙ sym (eq-eqb a b same)
  | inr other ↦ ne_eqb (a % 64) (b % 64) (λ at. omega (arith, at, other, one, two, three, four, few)) ∙ sym (ne_eqb a b other)
]

-- The count at a span's index is the count of that span.
pub place_counts : (width first last span slot : ℕ) (xs : List ℕ) → All (λ x. (first ≤ x / width) × (x / width ≤ last)) xs → first ≤ span → span ≤ last → last < first + 64 → span % 64 ≡ slot
    → count_by (is_at width slot) xs ≡ count_by (lies_in width span) xs
place_counts width first last span slot xs within from to few is =
    count_same (is_at width slot) (lies_in width span) xs
    (All-weaker (λ x. (first ≤ x / width) × (x / width ≤ last)) (λ x. is_at width slot x ≡ lies_in width span x)
    (λ x at. ap (λ (s : ℕ). x / width % 64 == s) (sym is) ∙ near_same (x / width) span first last at.0 at.1 from to few) xs within)

-- No instant is in a span outside of the row.
pub outside_none : (width first last span : ℕ) (xs : List ℕ) → All (λ x. (first ≤ x / width) × (x / width ≤ last)) xs → (span < first) ⊎ (last < span) → count_by (lies_in width span) xs ≡ 0
outside_none width first last span xs within outside =
    count_none (lies_in width span) xs
    (All-weaker (λ x. (first ≤ x / width) × (x / width ≤ last)) (λ x. lies_in width span x ≡ false)
    (λ x at. ne_eqb (x / width) span (λ same. elim outside [ inl before ↦ omega (arith, same, before, at.0) | inr behind ↦ omega (arith, same, behind, at.1) ])) xs within)

-- The counts of two spans add up.
pub counted_both : (a b m n : ℕ) → a ≡ counted m → b ≡ counted n → counted (a + b) ≡ counted (m + n)
counted_both a b m n e f = omega (arith, e, f)

pub places_push : (old new : List ℕ) (width slot more : ℕ) (xs : List ℕ) (x : ℕ) → x / width % 64 ≡ slot → slot < 64 → length old ≡ 64 → more ≡ counted (slice_index old slot + 1) → new ≡ slice_set old slot more
    → ((k : ℕ) → k < 64 → slice_index old k ≡ counted (count_by (is_at width k) xs))
    → (k : ℕ) → k < 64 → slice_index new k ≡ counted (count_by (is_at width k) (xs ++ x ∷ []))
places_push old new width slot more xs x is within long is_more is_new before k less =
    let pushed = count_push (is_at width k) xs x in
    elim (cases_eq k slot) [
      | inl same ↦
          let one : is_at width k x ≡ true = eq-eqb (x / width % 64) k (is ∙ sym same) in
          let there : slice_index new k ≡ more = ap (λ (l : List ℕ). slice_index l k) is_new ∙ ap (λ (i : ℕ). slice_index (slice_set old slot more) i) same ∙ get_or-set_same old slot more 0 (omega (arith, long, within)) in
          let counts : count_by (is_at width k) (xs ++ x ∷ []) ≡ count_by (is_at width k) xs + 1 = pushed ∙ ap (λ (b : Bool). count_by (is_at width k) xs + cond b 1 0) one in
          there ∙ is_more ∙ counted_push (slice_index old slot) (count_by (is_at width k) xs) 1 (ap (slice_index old) (sym same) ∙ before k less) ∙ ap counted (sym counts)
      | inr other ↦
          let none : is_at width k x ≡ false = ne_eqb (x / width % 64) k (λ at. other (sym at ∙ is)) in
          let there : slice_index new k ≡ slice_index old k = ap (λ (l : List ℕ). slice_index l k) is_new ∙ get_or-set_other old slot k more 0 other in
          let counts : count_by (is_at width k) (xs ++ x ∷ []) ≡ count_by (is_at width k) xs + 0 = pushed ∙ ap (λ (b : Bool). count_by (is_at width k) xs + cond b 1 0) none in
          there ∙ before k less ∙ ap counted (omega (arith, counts))
    ]

-- The first and the last span with one more instant.
pub first_push : (width first least : ℕ) (xs : List ℕ) (x : ℕ) → least ≡ min first (x / width) → ((early : ℕ) × Contains xs early × (early / width ≡ first)) → (early : ℕ) × Contains (xs ++ x ∷ []) early × (early / width ≡ least)
first_push width first least xs x is (early, among, at) = elim (cases_lt (x / width) first) [
  | inl less ↦ (x, Contains-push xs x, omega (arith, is, less))
  | inr more ↦ (early, Contains-append_left xs (x ∷ []) early among, omega (arith, is, more, at))
]

pub last_push : (width last most : ℕ) (xs : List ℕ) (x : ℕ) → most ≡ max last (x / width) → ((late : ℕ) × Contains xs late × (late / width ≡ last)) → (late : ℕ) × Contains (xs ++ x ∷ []) late × (late / width ≡ most)
last_push width last most xs x is (late, among, at) = elim (cases_lt last (x / width)) [
  | inl less ↦ (x, Contains-push xs x, omega (arith, is, less))
  | inr more ↦ (late, Contains-append_left xs (x ∷ []) late among, omega (arith, is, more, at))
]

pub within_push : (width first last least most : ℕ) (xs : List ℕ) (x : ℕ) → least ≡ min first (x / width) → most ≡ max last (x / width) → All (λ x. (first ≤ x / width) × (x / width ≤ last)) xs
    → All (λ x. (least ≤ x / width) × (x / width ≤ most)) (xs ++ x ∷ [])
within_push width first last least most xs x low high within =
    All-push (λ x. (least ≤ x / width) × (x / width ≤ most)) xs x
    (All-weaker (λ x. (first ≤ x / width) × (x / width ≤ last)) (λ x. (least ≤ x / width) × (x / width ≤ most)) (λ x at. (omega (arith, at.0, low), omega (arith, at.1, high))) xs within)
    (omega (arith, low), omega (arith, high))

-- If the row has no room for an instant, it is at least 64 spans from another.
pub finer : (xs : List ℕ) (x : ℕ) (spread : Spread) → Rows xs spread → (HasRoom spread (x / spread.width) → ⊥) → IsFine (xs ++ x ∷ []) (spread.width * 2)
finer xs x spread rows full =
    let least = first_push spread.width spread.first (min spread.first (x / spread.width)) xs x refl rows.first in
    let most = last_push spread.width spread.last (max spread.last (x / spread.width)) xs x refl rows.last in
    inr (spread.width, least.0, most.0, refl, least.1, most.1, omega (arith, full, least.2, most.2))

-- Every instant is in a span of twice the width.
pub half_within : (width first last : ℕ) (xs : List ℕ) → All (λ x. (first ≤ x / width) × (x / width ≤ last)) xs → All (λ x. (first / 2 ≤ x / (width * 2)) × (x / (width * 2) ≤ last / 2)) xs
half_within width first last xs within =
    All-weaker (λ x. (first ≤ x / width) × (x / width ≤ last)) (λ x. (first / 2 ≤ x / (width * 2)) × (x / (width * 2) ≤ last / 2))
    (λ x at. let half = div-div-eq-div-mul x width 2 in (omega (arith, half, at.0), omega (arith, half, at.1))) xs within

half_first : (width first : ℕ) (xs : List ℕ) → ((early : ℕ) × Contains xs early × (early / width ≡ first)) → (early : ℕ) × Contains xs early × (early / (width * 2) ≡ first / 2)
half_first width first xs (early, among, at) = (early, among, sym (div-div-eq-div-mul early width 2) ∙ ap (λ (n : ℕ). n / 2) at)

-- The count at each index is that of a span of twice the width.
abbrev pub IsHalved : Spread → ℕ → List ℕ → ℕ → Type 0
IsHalved spread first packets slot =
    (span : ℕ) × (first ≤ span) × (span < first + 64) × (span % 64 ≡ slot) × ((instants : List ℕ) → Rows instants spread → slice_index packets slot ≡ counted (count_by (lies_in (spread.width * 2) span) instants))

halved_counts : (xs : List ℕ) (spread : Spread) (packets : List ℕ) (slot : ℕ) → Rows xs spread → IsHalved spread (spread.first / 2) packets slot → slice_index packets slot ≡ counted (count_by (is_at (spread.width * 2) slot) xs)
halved_counts xs spread packets slot rows (span, from, near, place, counts) =
    counts xs rows
    ∙ ap counted (sym (place_counts (spread.width * 2) (spread.first / 2) (spread.first / 2 + 63) span slot xs
    (All-weaker (λ x. (spread.first / 2 ≤ x / (spread.width * 2)) × (x / (spread.width * 2) ≤ spread.last / 2)) (λ x. (spread.first / 2 ≤ x / (spread.width * 2)) × (x / (spread.width * 2) ≤ spread.first / 2 + 63))
    (λ x at. (at.0, omega (arith, at.1, spread.few))) xs (half_within spread.width spread.first spread.last xs rows.within))
    from (omega (arith, near)) (omega arith) place))

pub halved_rows : (xs : List ℕ) (spread new : Spread) → Rows xs spread → new.width ≡ spread.width * 2 → new.first ≡ spread.first / 2 → new.last ≡ spread.last / 2
    → ((slot : ℕ) → slot < 64 → IsHalved spread (spread.first / 2) new.packets slot) → Rows xs new
halved_rows xs spread new rows width first last halved = record {
  counts = λ slot less. rw width (halved_counts xs spread new.packets slot rows (halved slot less));
  within = rw (width, first, last) (half_within spread.width spread.first spread.last xs rows.within);
  first = rw (width, first) (half_first spread.width spread.first xs rows.first);
  last = rw (width, last) (half_first spread.width spread.last xs rows.last);
}

pub halved_more : (spread : Spread) (first : ℕ) (old new : List ℕ) (slot count span : ℕ) → slot < 64 → length old ≡ 64 → new ≡ slice_set old slot count → ((k : ℕ) → k < slot → IsHalved spread first old k)
    → first ≤ span → span < first + 64 → span % 64 ≡ slot → ((instants : List ℕ) → Rows instants spread → count ≡ counted (count_by (lies_in (spread.width * 2) span) instants))
    → (k : ℕ) → k < slot + 1 → IsHalved spread first new k
halved_more spread first old new slot count span within long is_new before from near place counts k less = elim (cases_eq k slot) [
  | inl same ↦
      let there : slice_index new k ≡ count = ap (λ (l : List ℕ). slice_index l k) is_new ∙ ap (λ (i : ℕ). slice_index (slice_set old slot count) i) same ∙ get_or-set_same old slot count 0 (omega (arith, long, within)) in
      (span, from, near, place ∙ sym same, λ instants rows. there ∙ counts instants rows)
  | inr other ↦
      let there : slice_index new k ≡ slice_index old k = ap (λ (l : List ℕ). slice_index l k) is_new ∙ get_or-set_other old slot k count 0 other in
      let known = before k (omega (arith, less, other)) in
      (known.0, known.1, known.2, known.3, λ instants rows. there ∙ known.4 instants rows)
]

-- If a row has no room for an instant, its spans can be twice as wide.
pub narrow : (spread : Spread) (x : ℕ) → x < 2 ^ 64 → (HasRoom spread (x / spread.width) → ⊥) → spread.width < 2 ^ 63
narrow spread x small full = elim (cases_lt spread.last 64) [
  | inl few ↦
      let far : 64 ≤ x / spread.width = omega (arith, full, few) in
      omega (arith, small, mul-le-mul_right spread.width far, div-mul-le_self x spread.width)
  | inr many ↦ omega (arith, spread.bounded, mul-le-mul_right spread.width many)
]

-- With wider spans all instants are fewer spans apart.
pub nearer : (spread new : Spread) (x : ℕ) → (HasRoom spread (x / spread.width) → ⊥) → new.width ≡ spread.width * 2 → new.first ≡ spread.first / 2 → new.last ≡ spread.last / 2
    → max new.last (x / new.width) - min new.first (x / new.width) < max spread.last (x / spread.width) - min spread.first (x / spread.width)
nearer spread new x full width first last =
    let half : x / new.width ≡ x / spread.width / 2 = ap (λ (w : ℕ). x / w) width ∙ sym (div-div-eq-div-mul x spread.width 2) in
    omega (arith, full, first, last, half)

pub half_bounded : (last width : ℕ) → last * width < 2 ^ 64 → last / 2 * (width * 2) < 2 ^ 64
half_bounded last width bounded =
    let even : last / 2 * 2 ≤ last = omega arith in
    omega (arith, bounded, mul-le-mul_right width even)

pub new_rows : (x : ℕ) (new : Spread) (slot : ℕ) → slot < 64 → slot ≡ x % 64 → new.width ≡ 1 → new.first ≡ x → new.last ≡ x → new.packets ≡ slice_set (replicate 64 0) slot 1 → Spreads (x ∷ []) new
new_rows x new slot within is width first last packets =
    let at : x / new.width ≡ x = ap (λ (w : ℕ). x / w) width ∙ div-one x in
    record {
      rows = record {
        counts = places_push (replicate 64 0) new.packets new.width slot 1 [] x (ap (λ (n : ℕ). n % 64) at ∙ sym is) within refl (omega (arith, get_or-replicate {A = ℕ} 64 slot 0 0 within)) packets (λ k less. get_or-replicate {A = ℕ} 64 k 0 0 less);
        within = All-push (λ i. (new.first ≤ i / new.width) × (i / new.width ≤ new.last)) [] x (All-nil (λ i. (new.first ≤ i / new.width) × (i / new.width ≤ new.last))) (omega (arith, at, first), omega (arith, at, last));
        first = (x, Contains-push [] x, at ∙ sym first);
        last = (x, Contains-push [] x, at ∙ sym last);
      };
      fine = inl width;
    }

-- Spans of this width are still needed with one more instant.
pub fine_more : (xs : List ℕ) (x width : ℕ) → IsFine xs width → IsFine (xs ++ x ∷ []) width
fine_more xs x width (inl one) = inl one
fine_more xs x width (inr (half, early, late, twice, first, last, far)) = inr (half, early, late, twice, Contains-append_left xs (x ∷ []) early first, Contains-append_left xs (x ∷ []) late last, far)

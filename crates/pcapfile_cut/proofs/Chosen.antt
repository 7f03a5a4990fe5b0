-- Lemmas on the wanted packets, one packet after another.
use Rattle.std.proofs.Common.{◌≡◌, ◌<◌, ◌≤◌, ◌+◌, ◌-◌, ℕ, List, [], ◌∷◌, ◌++◌, length, take, drop, Bool, true, false, refl, sym, arith, append_assoc, append-nil, length-append, inl, inr, ap, ◌∙◌}
use Rattle.std.specs.Prelude.{◌&&◌, if◌then◌else◌, filter, map, nat_le, not}
use Rattle.std.proofs.lemmas.Bool.{cases_lt}
use Rattle.std.proofs.lemmas.Bool.Decides.{nat_tests}
use Rattle.std.proofs.lemmas.List.{map-append, take_all, take-append-le, drop-append-le, drop-drop, length-drop}
use Rattle.std.proofs.lemmas.List.Elements.{filter-append}
use Rattle.std.proofs.Math.ListN.{drop_of_length-le}
use Rattle.circular_buffer.specs.Buffer.{keep_last}
use Rattle.pcapfile_cut.specs.declared.selection.Selection.{Selection}
use Rattle.pcapfile_cut.specs.declared.wanted.Wanted.{Wanted}
use Rattle.pcapfile_cut.specs.declared.wanted.Wanted.TheVariants.{All, Numbers, Bytes, Selected}
use Rattle.pcapfile_cut.specs.Choice.{Numbered, Preceded, Stored, chosen, digests_of, distinct, duplicates, is_duplicate, is_new, left_out, numbered, preceded, remembers, repeats, selected, takes}
use Rattle.pcapfile_cut.specs.Duplicates.{digest_of}
use Rattle.pcapfile_cut.specs.Selections.{is_selected}

-- A list of one element if the test holds, and of none otherwise.
abbrev pub one_if : {X : Type 0} → Bool → X → List X
one_if b x = if b then x ∷ [] else []

within : (a b n : ℕ) → a - 1 ≤ n → n < b → (nat_le a (n + 1) && nat_le (n + 1) b) ≡ true
within a b n from lt = grind (arith, nat_tests)

before : (a b n : ℕ) → n < a - 1 → (nat_le a (n + 1) && nat_le (n + 1) b) ≡ false
before a b n lt = grind (arith, nat_tests)

behind : (a b n : ℕ) → b ≤ n → (nat_le a (n + 1) && nat_le (n + 1) b) ≡ false
behind a b n le = grind (arith, nat_tests)

numbers_push : (a b : ℕ) (ps : List Stored) (p : Stored)
    → drop (a - 1) (take b (ps ++ p ∷ [])) ≡ drop (a - 1) (take b ps) ++ one_if (nat_le a (length ps + 1) && nat_le (length ps + 1) b) p
numbers_push a b ps p =
    let long : length (ps ++ p ∷ []) ≡ length ps + 1 = length-append ps (p ∷ []) in
    elim (cases_lt (length ps) b) [
      | inl lt ↦
          let all : take b (ps ++ p ∷ []) ≡ ps ++ p ∷ [] = take_all b (ps ++ p ∷ []) (omega (arith, long, lt)) in
          let front : take b ps ≡ ps = take_all b ps (omega (arith, lt)) in
          elim (cases_lt (length ps) (a - 1)) [
            | inl early ↦
                let none : drop (a - 1) (ps ++ p ∷ []) ≡ [] = drop_of_length-le (ps ++ p ∷ []) {i = a - 1} (omega (arith, long, early)) in
                let none_before : drop (a - 1) ps ≡ [] = drop_of_length-le ps {i = a - 1} (omega (arith, early)) in
                let not : (nat_le a (length ps + 1) && nat_le (length ps + 1) b) ≡ false = before a b (length ps) early in
                rw (all, front, none, none_before, not) refl
            | inr from ↦
                let one : drop (a - 1) (ps ++ p ∷ []) ≡ drop (a - 1) ps ++ p ∷ [] = drop-append-le (a - 1) ps (p ∷ []) from in
                let is : (nat_le a (length ps + 1) && nat_le (length ps + 1) b) ≡ true = within a b (length ps) from lt in
                rw (all, front, one, is) refl
          ]
      | inr le ↦
          let front : take b (ps ++ p ∷ []) ≡ take b ps = take-append-le b ps (p ∷ []) le in
          let not : (nat_le a (length ps + 1) && nat_le (length ps + 1) b) ≡ false = behind a b (length ps) le in
          rw (front, not) (sym (append-nil (drop (a - 1) (take b ps))))
    ]

-- A packet with its number, alone.
abbrev numbered_one : ℕ → Stored → List Numbered
numbered_one number p = record { number = number; stored = p } ∷ []

pub chosen_none : (wanted : Wanted) → chosen wanted [] ≡ []
chosen_none All = refl
chosen_none (Numbers first last) =
    let none : take {A = Stored} last [] ≡ [] = take_all {A = Stored} last [] (omega arith) in
    rw none (drop_of_length-le {A = Stored} [] {i = first - 1} (omega arith))
chosen_none (Bytes most) = refl
chosen_none (Selected selection) = refl

pub left_out_none : (wanted : Wanted) → left_out wanted [] ≡ []
left_out_none All = refl
left_out_none (Numbers first last) = refl
left_out_none (Bytes most) = refl
left_out_none (Selected selection) = refl

-- One more packet has the next number.
numbered_push : (first : ℕ) (ps : List Stored) (p : Stored) → numbered first (ps ++ p ∷ []) ≡ numbered first ps ++ (record { number = length ps + first; stored = p }) ∷ []
numbered_push first [] p = ap (λ (n : ℕ). numbered_one n p) (omega arith)
numbered_push first (x ∷ ps) p =
    let next : length ps + (first + 1) ≡ length (x ∷ ps) + first = omega arith in
    ap (λ (more : List Numbered). (record { number = first; stored = x }) ∷ more)
    (numbered_push (first + 1) ps p ∙ ap (λ (n : ℕ). numbered (first + 1) ps ++ numbered_one n p) next)

-- A packet with those before it, alone.
abbrev preceded_one : List Stored → Stored → List Preceded
preceded_one before p = record { before = before; stored = p } ∷ []

-- One more packet has all the others before it.
preceded_push : (before ps : List Stored) (p : Stored) → preceded before (ps ++ p ∷ []) ≡ preceded before ps ++ preceded_one (before ++ ps) p
preceded_push before [] p = ap (λ (all : List Stored). preceded_one all p) (sym (append-nil before))
preceded_push before (x ∷ ps) p =
    ap (λ (more : List Preceded). (record { before = before; stored = x }) ∷ more)
    (preceded_push (before ++ x ∷ []) ps p ∙ ap (λ (all : List Stored). preceded (before ++ x ∷ []) ps ++ preceded_one all p) (append_assoc before (x ∷ []) ps))

module _ {X : Type 0} (packet : X → Stored) (test : X → Bool) where
  packet_if : (b : Bool) (it : X) → map packet (one_if b it) ≡ one_if b (packet it)
  packet_if true it = refl
  packet_if false it = refl

  -- One more packet is picked if it passes the test.
  picked_push : (all : List X) (last : X) → map packet (filter test (all ++ last ∷ [])) ≡ map packet (filter test all) ++ one_if (test last) (packet last)
  picked_push all last =
      ap (map packet) (filter-append test all (last ∷ []))
      ∙ map-append packet (filter test all) (one_if (test last) last)
      ∙ ap (λ (end : List Stored). map packet (filter test all) ++ end) (packet_if (test last) last)

selected_push : (selection : Selection) (ps : List Stored) (p : Stored)
    → selected selection (ps ++ p ∷ []) ≡ selected selection ps ++ one_if (is_selected selection (length ps + 1) p.packet) p
selected_push selection ps p =
    let test : Numbered → Bool = λ it. is_selected selection it.number it.stored.packet in
    ap (λ (all : List Numbered). map (λ (it : Numbered). it.stored) (filter test all)) (numbered_push 1 ps p)
    ∙ picked_push (λ (it : Numbered). it.stored) test (numbered 1 ps) (record { number = length ps + 1; stored = p })

-- One more packet is picked if it passes the test beside those before it.
beside_push : (test : Preceded → Bool) (ps : List Stored) (p : Stored)
    → map (λ (it : Preceded). it.stored) (filter test (preceded [] (ps ++ p ∷ [])))
    ≡ map (λ (it : Preceded). it.stored) (filter test (preceded [] ps)) ++ one_if (test (record { before = ps; stored = p })) p
beside_push test ps p =
    ap (λ (all : List Preceded). map (λ (it : Preceded). it.stored) (filter test all)) (preceded_push [] ps p)
    ∙ picked_push (λ (it : Preceded). it.stored) test (preceded [] ps) (record { before = ps; stored = p })

distinct_if : (n : ℕ) (ps : List Stored) (b : Bool) (p : Stored)
    → distinct n (ps ++ one_if b p) ≡ distinct n ps ++ one_if (b && not (is_duplicate n (record { before = ps; stored = p }))) p
distinct_if n ps true p = beside_push (λ (it : Preceded). not (is_duplicate n it)) ps p
distinct_if n ps false p = ap (distinct n) (append-nil ps) ∙ sym (append-nil (distinct n ps))

duplicates_if : (n : ℕ) (ps : List Stored) (b : Bool) (p : Stored)
    → duplicates n (ps ++ one_if b p) ≡ duplicates n ps ++ one_if (b && is_duplicate n (record { before = ps; stored = p })) p
duplicates_if n ps true p = beside_push (λ (it : Preceded). is_duplicate n it) ps p
duplicates_if n ps false p = ap (duplicates n) (append-nil ps) ∙ sym (append-nil (duplicates n ps))

-- The digests that are remembered after these packets.
abbrev pub recent_of : Wanted → List Stored → List (List ℕ)
recent_of (Selected selection) packets = keep_last selection.now.dedup (digests_of (selected selection.now packets))
recent_of _ packets = []

pub recent_none : (wanted : Wanted) → recent_of wanted [] ≡ []
recent_none All = refl
recent_none (Numbers first last) = refl
recent_none (Bytes most) = refl
recent_none (Selected selection) = drop_of_length-le {A = List ℕ} [] {i = 0 - selection.now.dedup} (omega arith)

-- The last ones after one more are among the last ones before it and that one.
keep_last_push : (n : ℕ) (xs : List (List ℕ)) (x : List ℕ) → keep_last n (xs ++ x ∷ []) ≡ keep_last n (keep_last n xs ++ x ∷ [])
keep_last_push n xs x =
    let k = length xs - n in
    let front : drop k (xs ++ x ∷ []) ≡ keep_last n xs ++ x ∷ [] = drop-append-le k xs (x ∷ []) (omega arith) in
    let long : length (keep_last n xs ++ x ∷ []) ≡ length xs - k + 1 = length-append (keep_last n xs) (x ∷ []) ∙ ap (λ (m : ℕ). m + 1) (length-drop k xs) in
    let all : length (xs ++ x ∷ []) ≡ length xs + 1 = length-append xs (x ∷ []) in
    let more = length (keep_last n xs ++ x ∷ []) - n in
    let both : length (xs ++ x ∷ []) - n ≡ k + more = omega (arith, long, all) in
    ap (λ (m : ℕ). drop m (xs ++ x ∷ [])) both ∙ sym (drop-drop more k (xs ++ x ∷ [])) ∙ ap (drop more) front

keep_none : (xs : List (List ℕ)) → keep_last 0 xs ≡ []
keep_none xs = drop_of_length-le xs {i = length xs - 0} (omega arith)

remembered_none : (b : Bool) (d : List ℕ) → [] ≡ (if b then keep_last 0 (d ∷ []) else [])
remembered_none true d = sym (keep_none (d ∷ []))
remembered_none false d = refl

remembered_if : (n : ℕ) (ps : List Stored) (b : Bool) (p : Stored)
    → keep_last n (digests_of (ps ++ one_if b p)) ≡ (if b then keep_last n (keep_last n (digests_of ps) ++ digest_of p.packet ∷ []) else keep_last n (digests_of ps))
remembered_if n ps true p = ap (keep_last n) (map-append (λ (stored : Stored). digest_of stored.packet) ps (p ∷ [])) ∙ keep_last_push n (digests_of ps) (digest_of p.packet)
remembered_if n ps false p = ap (λ (all : List Stored). keep_last n (digests_of all)) (append-nil ps)

-- After one more packet its digest is remembered too if it passes the tests.
pub recent_push : (wanted : Wanted) (ps : List Stored) (p : Stored) → recent_of wanted (ps ++ p ∷ []) ≡ remembers wanted (recent_of wanted ps) (length ps + 1) p.packet
recent_push All ps p = remembered_none true (digest_of p.packet)
recent_push (Numbers first last) ps p = remembered_none (takes (Numbers first last) (length ps + 1) p.packet) (digest_of p.packet)
recent_push (Bytes most) ps p = remembered_none true (digest_of p.packet)
recent_push (Selected selection) ps p =
    let n = selection.now.dedup in
    ap (λ (all : List Stored). keep_last n (digests_of all)) (selected_push selection.now ps p)
    ∙ remembered_if n (selected selection.now ps) (is_selected selection.now (length ps + 1) p.packet) p

and_true : (b : Bool) → (b && true) ≡ b
and_true true = refl
and_true false = refl

-- One more packet is chosen if it passes the tests and its digest is not remembered.
pub chosen_push : (wanted : Wanted) (ps : List Stored) (p : Stored)
    → chosen wanted (ps ++ p ∷ []) ≡ chosen wanted ps ++ one_if (is_new wanted (recent_of wanted ps) (length ps + 1) p.packet) p
chosen_push All ps p = refl
chosen_push (Numbers first last) ps p =
    numbers_push first last ps p
    ∙ ap (λ (b : Bool). drop (first - 1) (take last ps) ++ one_if b p) (sym (and_true (takes (Numbers first last) (length ps + 1) p.packet)))
chosen_push (Bytes most) ps p = refl
chosen_push (Selected selection) ps p =
    let n = selection.now.dedup in
    ap (distinct n) (selected_push selection.now ps p) ∙ distinct_if n (selected selection.now ps) (is_selected selection.now (length ps + 1) p.packet) p

length_if : (b : Bool) (p : Stored) → length (one_if b p) ≡ (if b then 1 else 0)
length_if true p = refl
length_if false p = refl

none_more : (n : ℕ) (b : Bool) → n ≡ n + (if b && false then 1 else 0)
none_more n true = omega arith
none_more n false = omega arith

-- One more packet is left out if it passes the tests and its digest is remembered.
pub left_out_push : (wanted : Wanted) (ps : List Stored) (p : Stored)
    → length (left_out wanted (ps ++ p ∷ [])) ≡ length (left_out wanted ps) + (if repeats wanted (recent_of wanted ps) (length ps + 1) p.packet then 1 else 0)
left_out_push All ps p = refl
left_out_push (Numbers first last) ps p = none_more 0 (takes (Numbers first last) (length ps + 1) p.packet)
left_out_push (Bytes most) ps p = refl
left_out_push (Selected selection) ps p =
    let n = selection.now.dedup in
    let ones = selected selection.now ps in
    let b = is_selected selection.now (length ps + 1) p.packet in
    let is = b && is_duplicate n (record { before = ones; stored = p }) in
    ap (λ (all : List Stored). length (duplicates n all)) (selected_push selection.now ps p)
    ∙ ap (λ (all : List Stored). length all) (duplicates_if n ones b p)
    ∙ length-append (duplicates n ones) (one_if is p)
    ∙ ap (λ (m : ℕ). length (duplicates n ones) + m) (length_if is p)

-- The records that the second pass reads again.
use Rattle.std.proofs.Common.{◌≡◌, ◌<◌, ◌+◌, ℕ, List, [], ◌∷◌, ◌++◌, length, take, drop, map, get_or, Bool, Option, Some, Err, refl, sym, ap, ◌∙◌, subst, take-append-drop}
use Rattle.std.specs.Io.KnownBytes.{Appends}
use Rattle.std.proofs.KnownBytes.{Appends-trans}
use Rattle.std.proofs.lemmas.List.{drop_more, map_push, take_more}
use Rattle.std.proofs.lemmas.List.Elements.{All-nil, All-push}
use Rattle.pcapfile_sort.specs.declared.entry.Entry.{Entry}
use Rattle.pcapfile_sort.specs.declared.sorting.Sorted.{Sorted}
use Rattle.pcapfile_sort.specs.Again.{GivesAt, IsAt}
use Rattle.pcapfile_sort.specs.Copying.{AreCopies, CopiesOne, HasCopy, IsCopy, StopsCopying}
use Rattle.pcapfile_sort.specs.Entries.{led_to}
use Rattle.pcapfile_sort.specs.Ranked.{Ranked, texts_of}
use Rattle.pcapfile_sort.proofs.LedRecords.{part_at}
use Rattle.pcapfile_sort.proofs.PacketRecords.{texts_push, ranked_same}

snoc_same : {A : Type 0} (xs ys : List A) (x y : A) → xs ≡ ys → x ≡ y → xs ++ x ∷ [] ≡ ys ++ y ∷ []
snoc_same xs ys x y lists ones = rw (lists, ones) refl

map_snoc : {A B X : Type 0} (f : X → B) (g : A → B) (copies : List X) (copy : X) (entries : List A) (entry : A) → map f copies ≡ map g entries → f copy ≡ g entry → map f (copies ++ copy ∷ []) ≡ map g (entries ++ entry ∷ [])
map_snoc f g copies copy entries entry before here = map_push f copies copy ∙ snoc_same (map f copies) (map g entries) (f copy) (g entry) before here ∙ sym (map_push g entries entry)

-- The copy is the record to which its entry leads in the known bytes.
copy_is : (Is : Ranked → Type 0) (again : Option (List ℕ)) (entry : Entry) (copy : Ranked) (bytes : List ℕ) → again ≡ Some bytes → IsCopy Is again entry copy → copy ≡ led_to bytes entry
copy_is Is again entry copy bytes is one =
    let there : IsAt entry.place copy.text bytes = subst (λ (known : Option (List ℕ)). GivesAt known entry.place copy.text) is one.there in
    ranked_same copy (led_to bytes entry) one.rank (sym (part_at entry.place entry.length copy.text bytes there (sym one.long)))

module _ (Is : Ranked → Type 0) (again : Option (List ℕ)) where
  pub copied_none : (entries : List Entry) → entries ≡ [] → AreCopies Is again entries []
  copied_none entries none = record {
    each = All-nil Is;
    ranks = ap (map (λ (entry : Entry). entry.rank)) (sym none);
    lengths = ap (map (λ (entry : Entry). entry.length)) (sym none);
    same = λ bytes is. ap (map (led_to bytes)) (sym none);
  }

  -- The record of one more entry was copied.
  pub copied_push : (entries : List Entry) (entry : Entry) (copies : List Ranked) (copy : Ranked) → AreCopies Is again entries copies → IsCopy Is again entry copy → AreCopies Is again (entries ++ entry ∷ []) (copies ++ copy ∷ [])
  copied_push entries entry copies copy so_far one = record {
    each = All-push Is copies copy so_far.each one.ranked;
    ranks = map_snoc (λ (t : Ranked). t.rank) (λ (e : Entry). e.rank) copies copy entries entry so_far.ranks one.rank;
    lengths = map_snoc (λ (t : Ranked). length t.text) (λ (e : Entry). e.length) copies copy entries entry so_far.lengths one.long;
    same = λ bytes is. snoc_same copies (map (led_to bytes) entries) copy (led_to bytes entry) (so_far.same bytes is) (copy_is Is again entry copy bytes is one) ∙ sym (map_push (led_to bytes) entries entry);
  }

  pub copied_more : (entries : List Entry) (i : ℕ) (d : Entry) (copies : List Ranked) (copy : Ranked) → i < length entries → AreCopies Is again (take i entries) copies → IsCopy Is again (get_or entries i d) copy
      → AreCopies Is again (take (i + 1) entries) (copies ++ copy ∷ [])
  copied_more entries i d copies copy less so_far one =
      subst (λ (l : List Entry). AreCopies Is again l (copies ++ copy ∷ [])) (sym (take_more entries i d less)) (copied_push (take i entries) (get_or entries i d) copies copy so_far one)

  -- The same, where the bytes of the capture are known by another name.
  pub copied_next : (entries : List Entry) (i : ℕ) (d : Entry) (copies : List Ranked) (copy : Ranked) (now : Option (List ℕ)) → now ≡ again → i < length entries → AreCopies Is again (take i entries) copies → IsCopy Is now (get_or entries i d) copy
      → AreCopies Is again (take (i + 1) entries) (copies ++ copy ∷ [])
  copied_next entries i d copies copy now same less so_far one =
      copied_more entries i d copies copy less so_far (subst (λ (known : Option (List ℕ)). IsCopy Is known (get_or entries i d) copy) same one)

  pub went_more : (out mid now : Option (List ℕ)) (copies : List Ranked) (copy : Ranked) → Appends out mid (texts_of copies) → Appends mid now copy.text → Appends out now (texts_of (copies ++ copy ∷ []))
  went_more out mid now copies copy so_far more = subst (λ (t : List ℕ). Appends out now t) (sym (texts_push copies copy)) (Appends-trans out mid now (texts_of copies) copy.text so_far more)

  -- Copying stopped at the next entry.
  pub stops_next : (entries : List Entry) (i : ℕ) (d : Entry) (failed : Bool) (out mid now : Option (List ℕ)) (stop : Sorted) (copies : List Ranked) (known : Option (List ℕ)) → known ≡ again → i < length entries
      → AreCopies Is again (take i entries) copies → Appends out mid (texts_of copies) → CopiesOne Is known (get_or entries i d) failed mid now (Err stop) → StopsCopying Is again entries failed out now stop
  stops_next entries i d failed out mid now stop copies known same less so_far went stops = record {
    front = take i entries;
    next = get_or entries i d;
    rest = drop (i + 1) entries;
    split = sym (take-append-drop i entries) ∙ ap (λ (l : List Entry). take i entries ++ l) (drop_more entries i d less);
    copies = copies;
    copied = so_far;
    mid = mid;
    went = went;
    stops = subst (λ (k : Option (List ℕ)). CopiesOne Is k (get_or entries i d) failed mid now (Err stop)) same stops;
  }

-- Known bytes have no copy where others are.
pub no_copy : (Is : Ranked → Type 0) (again : Option (List ℕ)) (entry : Entry) (part : List ℕ) → GivesAt again entry.place part → length part ≡ entry.length
    → ((ranked : Ranked) → ranked.rank ≡ entry.rank → ranked.text ≡ part → Is ranked → ⊥) → HasCopy Is again entry → ⊥
no_copy Is again entry part gives long none has =
    let bytes = has.0 in
    let copy = has.2 in
    let there : IsAt entry.place part bytes = subst (λ (known : Option (List ℕ)). GivesAt known entry.place part) has.1 gives in
    let one = has.3 in
    let copied : IsAt entry.place copy.text bytes = subst (λ (known : Option (List ℕ)). GivesAt known entry.place copy.text) has.1 one.there in
    let same : copy.text ≡ part = sym (part_at entry.place entry.length copy.text bytes copied (sym one.long)) ∙ part_at entry.place entry.length part bytes there (sym long) in
    none copy one.rank same one.ranked

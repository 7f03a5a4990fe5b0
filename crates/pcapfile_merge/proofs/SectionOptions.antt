-- Lemmas on the options of section headers.
use Rattle.std.proofs.Common.{◌≡◌, ℕ, ◌+◌, ◌<◌, suc, List, [], ◌∷◌, ◌++◌, length, get_or, take, drop, map, ap, sym, ◌∙◌, add-one, Bool, true, false, refl, append-nil, arith, nat_le, codes, if◌then◌else◌, lt_irrefl, Decides, true≢false}
use Rattle.std.specs.Prelude.{◌||◌, ◌==◌}
use Rattle.std.specs.Cmp.{unsigned_Decides}
use Rattle.std.specs.Cmp.Lexicographic.{bytes_decides}
use Rattle.std.specs.List.{flat_map, list_any}
use Rattle.pcap_options.specs.Values.{Bytes, CustomBytes, CustomStr, Entry, Integer, Str, Unknown, Value, integer_in, value_bytes}
use Rattle.pcapfile_merge.specs.SectionOptions.{AddsFewer, comments_on, comment, is_same_value, with_own_length, word_for}
use Rattle.std.proofs.lemmas.List.{append_assoc, take-append-drop, take-map, map-append}
use Rattle.std.proofs.lemmas.Bool.Decides.{Decides-and, Decides-like}
use Rattle.std.proofs.lemmas.List.Concat.{flat_map-append}
use Rattle.std.proofs.lemmas.List.Folds.{list_any-append}
use Rattle.std.proofs.Math.Seq.{take-append_seam, take-suc, drop-cons}

or_true : (b : Bool) → (b || true) ≡ true
or_true true = refl
or_true false = refl

any_of_both : {O E : Type 0} (view : O → E) (p : E → Bool) (xs ys : List O)
    → list_any p (map view (xs ++ ys)) ≡ (list_any p (map view xs) || list_any p (map view ys))
any_of_both view p xs ys = ap (λ l. list_any p l) (map-append view xs ys) ∙ list_any-append p (map view xs) (map view ys)

-- An item that passes the test is one of the whole list.
pub found : {O E : Type 0} (view : O → E) (p : E → Bool) (items : List O) (i : ℕ) (o : O) → i < length items → o ≡ get_or items i o → true ≡ p (view o)
    → true ≡ list_any p (map view items)
found view p items i o within is here =
    let front = list_any p (map view (take i items)) in
    let rest = list_any p (map view (drop (suc i) items)) in
    let from_here : drop i items ≡ o ∷ drop (suc i) items = drop-cons items i o within ∙ ap (λ y. y ∷ drop (suc i) items) (sym is) in
    let whole : items ≡ take i items ++ (o ∷ drop (suc i) items) = sym (take-append-drop i items) ∙ ap (λ l. take i items ++ l) from_here in
    sym (ap (λ l. list_any p (map view l)) whole ∙ any_of_both view p (take i items) (o ∷ drop (suc i) items)
    ∙ ap (λ b. front || (b || rest)) (sym here) ∙ or_true front)

-- If one more item fails the test, none of the items up to it passes.
pub missed : {O E : Type 0} (view : O → E) (p : E → Bool) (items : List O) (i : ℕ) (o : O) → i < length items → o ≡ get_or items i o
    → list_any p (map view (take i items)) ≡ false → false ≡ p (view o) → list_any p (map view (take (i + 1) items)) ≡ false
missed view p items i o within is before here =
    let more : take (suc i) items ≡ take i items ++ (o ∷ []) = take-suc items i o within ∙ ap (λ y. take i items ++ (y ∷ [])) (sym is) in
    ap (λ k. list_any p (map view (take k items))) (add-one i) ∙ ap (λ l. list_any p (map view l)) more ∙ any_of_both view p (take i items) (o ∷ [])
    ∙ ap (λ b. b || (p (view o) || false)) before ∙ ap (λ b. b || false) (sym here)

-- One more option adds something.
pub added_more : {O : Type 0} (view : O → Entry) (adds : Entry → List Entry) (earlier so_far now : List Entry) (options : List O) (option : O)
    → so_far ≡ earlier ++ flat_map adds (map view options) → now ≡ so_far ++ adds (view option) → now ≡ earlier ++ flat_map adds (map view (options ++ option ∷ []))
added_more view adds earlier so_far now options option are is =
    let front = flat_map adds (map view options) in
    is ∙ ap (λ (l : List Entry). l ++ adds (view option)) are ∙ append_assoc earlier front (adds (view option))
    ∙ ap (λ (l : List Entry). earlier ++ l) (ap (λ (l : List Entry). front ++ l) (sym (append-nil (adds (view option))))
    ∙ sym (flat_map-append adds (map view options) (view option ∷ [])) ∙ ap (flat_map adds) (sym (map-append view options (option ∷ []))))

-- The options of the earlier headers stay in front.
pub front_stays : {O : Type 0} (view : O → Entry) (n : ℕ) (start more : List Entry) (options : List O) → n ≡ length start → map view options ≡ start ++ more
    → map view (take n options) ≡ start
front_stays view n start more options is are =
    sym (take-map view n options) ∙ ap (λ (l : List Entry). take n l) are ∙ ap (λ (k : ℕ). take k (start ++ more)) is ∙ take-append_seam start more

-- None of the options is added yet.
pub none_added : (adds earlier : List Entry) → 0 < length adds → AddsFewer adds earlier earlier
none_added adds earlier some = record { first = []; left = adds; follow = sym (append-nil earlier); are_first = refl; not_all = some }

-- One of two options is added.
pub one_added : (a b : Entry) (earlier : List Entry) → AddsFewer (a ∷ b ∷ []) earlier (earlier ++ a ∷ [])
one_added a b earlier = record { first = a ∷ []; left = b ∷ []; follow = refl; are_first = refl; not_all = omega arith }

-- A number that stands for the kind of a value.
abbrev kind : Value → ℕ
kind (Str s) = 0
kind (Bytes s) = 1
kind (Integer n) = 2
kind (CustomStr p s) = 3
kind (CustomBytes p s) = 4
kind (Unknown n s) = 5

-- Values of two kinds are neither the same nor equal.
apart : (a b : Value) → is_same_value a b ≡ false → (kind (with_own_length a) == kind (with_own_length b)) ≡ false
    → Decides (is_same_value a b) (with_own_length a ≡ with_own_length b)
apart a b other kinds = (
  λ yes. absurd (true≢false (sym yes ∙ other)),
  λ same. absurd (true≢false (sym ((unsigned_Decides (kind (with_own_length a)) (kind (with_own_length b))).1 (ap kind same)) ∙ kinds)),
)

-- A number and bytes are the same exactly if a value that is made of both is.
both : (r : Bool) (make : ℕ → List ℕ → Value) (m n : ℕ) (s t : List ℕ) → ((k : ℕ) (u : List ℕ) → integer_in (make k u) ≡ k) → ((k : ℕ) (u : List ℕ) → value_bytes (make k u) ≡ u)
    → Decides r ((m ≡ n) × (s ≡ t)) → Decides r (make m s ≡ make n t)
both r make m n s t number bytes are = Decides-like r (λ (p : (m ≡ n) × (s ≡ t)). ap (λ k. make k s) p.0 ∙ ap (make n) p.1)
    (λ (p : make m s ≡ make n t). (sym (number m s) ∙ ap integer_in p ∙ number n t, sym (bytes m s) ∙ ap value_bytes p ∙ bytes n t)) are

-- Two values are the same exactly if they are equal, but for the length of unknown ones.
pub same_is_equal : (a b : Value) → Decides (is_same_value a b) (with_own_length a ≡ with_own_length b)
same_is_equal (Str s) (Str t) = Decides-like _ (ap Str) (ap value_bytes) (bytes_decides s t)
same_is_equal (Bytes s) (Bytes t) = Decides-like _ (ap Bytes) (ap value_bytes) (bytes_decides s t)
same_is_equal (Integer m) (Integer n) = Decides-like _ (ap Integer) (ap integer_in) (unsigned_Decides m n)
same_is_equal (CustomStr p s) (CustomStr q t) = both _ CustomStr p q s t (λ k u. refl) (λ k u. refl) (Decides-and _ _ (unsigned_Decides p q) (bytes_decides s t))
same_is_equal (CustomBytes p s) (CustomBytes q t) = both _ CustomBytes p q s t (λ k u. refl) (λ k u. refl) (Decides-and _ _ (unsigned_Decides p q) (bytes_decides s t))
same_is_equal (Unknown m s) (Unknown n t) = Decides-like _ (ap (λ u. Unknown (length u) u)) (ap value_bytes) (bytes_decides s t)
same_is_equal a b = apart a b refl refl

some_of_either : (b : Bool) (x y z : Entry) → 0 < length (if b then x ∷ [] else y ∷ z ∷ [])
some_of_either true x y z = omega arith
some_of_either false x y z = omega arith

-- There is at least one comment on an option.
pub some_comments : (name : List ℕ) (single : ℕ × List ℕ) → 0 < length (comments_on name single)
some_comments name single =
    let front = name ++ codes ": " ++ word_for single.0 ++ codes ": " in
    some_of_either (nat_le (length front + length single.1) 65535) (comment (front ++ single.1)) (comment front) (comment single.1)

more_left : (left more : List Entry) → 0 < length left → 0 < length (left ++ more)
more_left (entry ∷ left) more some = omega arith
more_left [] more none = absurd (lt_irrefl 0 none)

-- If not all that one option adds is added, neither is all that the options add.
pub fewer_of_all : {O : Type 0} (view : O → Entry) (adds : Entry → List Entry) (start so_far now : List Entry) (yielded rest after items : List O) (option : O)
    → so_far ≡ start ++ flat_map adds (map view yielded) → yielded ++ rest ≡ items → rest ≡ option ∷ after → AddsFewer (adds (view option)) so_far now
    → AddsFewer (flat_map adds (map view items)) start now
fewer_of_all {O = O} view adds start so_far now yielded rest after items option are whole step fewer =
    let front = flat_map adds (map view yielded) in
    let back = flat_map adds (map view after) in
    let parts : items ≡ yielded ++ option ∷ after = sym whole ∙ ap (λ (l : List O). yielded ++ l) step in
    record {
      first = front ++ fewer.first;
      left = fewer.left ++ back;
      follow = fewer.follow ∙ ap (λ (l : List Entry). l ++ fewer.first) are ∙ append_assoc start front fewer.first;
      are_first = ap (λ (l : List O). flat_map adds (map view l)) parts ∙ ap (flat_map adds) (map-append view yielded (option ∷ after))
          ∙ flat_map-append adds (map view yielded) (view option ∷ map view after) ∙ ap (λ (l : List Entry). front ++ (l ++ back)) fewer.are_first
          ∙ ap (λ (l : List Entry). front ++ l) (append_assoc fewer.first fewer.left back) ∙ sym (append_assoc front fewer.first (fewer.left ++ back));
      not_all = more_left fewer.left back fewer.not_all;
    }

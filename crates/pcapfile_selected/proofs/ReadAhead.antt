-- Bytes that are read ahead.
use Rattle.std.proofs.Common.{◌≡◌, ◌∙◌, ◌<◌, ◌≤◌, ◌+◌, ◌-◌, ◌++◌, ℕ, List, [], length, take, drop, min, Option, None, Some, Result, IfSome, arith, ap, append-nil, subst, sym}
use Rattle.std.specs.Io.KnownBytes.{Consumes, IsAtEnd, Keeps, ReadConsumes, prepend_known}
use Rattle.std.proofs.KnownBytes.{Consumes-nil, Consumes-trans, prepend_known-nil}
use Rattle.std.proofs.lemmas.List.{append_assoc, drop-take, length-drop, take-append-drop, take-append-le, take-take, take_all, take_at}
use Rattle.pcapfile_selected.specs.Ahead.{ReadsAhead}

-- Nothing was read ahead yet.
pub ahead_none : (held : List ℕ) (input : Option (List ℕ)) → ReadsAhead held held input input
ahead_none held input = record { bytes = []; took = Consumes-nil input; held = sym (append-nil held) }

-- More was read ahead.
pub ahead_more : (h0 h1 h2 : List ℕ) (k0 k1 k2 : Option (List ℕ)) → ReadsAhead h0 h1 k0 k1 → ReadsAhead h1 h2 k1 k2 → ReadsAhead h0 h2 k0 k2
ahead_more h0 h1 h2 k0 k1 k2 first more = record {
  bytes = first.bytes ++ more.bytes;
  took = Consumes-trans k0 k1 k2 first.bytes more.bytes first.took more.took;
  held = more.held ∙ (ap (λ (l : List ℕ). l ++ more.bytes) first.held ∙ append_assoc h0 first.bytes more.bytes);
}

-- Reading ahead leaves what follows.
pub ahead_keeps : (h0 h1 : List ℕ) (k0 k1 : Option (List ℕ)) → ReadsAhead h0 h1 k0 k1 → Keeps (prepend_known h0 k0) (prepend_known h1 k1)
ahead_keeps h0 h1 None k1 ahead = tt
ahead_keeps h0 h1 (Some xs) None ahead = absurd ahead.took
ahead_keeps h0 h1 (Some xs) (Some ys) ahead =
    ap (λ (l : List ℕ). l ++ ys) ahead.held ∙ (append_assoc h0 ahead.bytes ys ∙ ap (λ (l : List ℕ). h0 ++ l) (sym ahead.took))

-- As many bytes as are needed were read ahead.
pub ahead_full : (h0 h1 : List ℕ) (n : ℕ) (k0 k1 : Option (List ℕ)) → ReadsAhead h0 h1 k0 k1 → length h1 ≡ n
    → IfSome (prepend_known h0 k0) (λ bytes. h1 ≡ take n bytes)
ahead_full h0 h1 n None k1 ahead full = tt
ahead_full h0 h1 n (Some xs) None ahead full = absurd ahead.took
ahead_full h0 h1 n (Some xs) (Some ys) ahead full =
    let keeps : h1 ++ ys ≡ h0 ++ xs = ahead_keeps h0 h1 (Some xs) (Some ys) ahead in
    sym (take_at h1 ys n full) ∙ ap (λ (l : List ℕ). take n l) keeps

-- All that follows was read ahead.
pub ahead_all : (h0 h1 : List ℕ) (n : ℕ) (k0 k1 : Option (List ℕ)) → ReadsAhead h0 h1 k0 k1 → length h1 ≤ n → IsAtEnd k1
    → IfSome (prepend_known h0 k0) (λ bytes. h1 ≡ take n bytes)
ahead_all h0 h1 n None k1 ahead few ended = tt
ahead_all h0 h1 n (Some xs) None ahead few ended = absurd ahead.took
ahead_all h0 h1 n (Some xs) (Some ys) ahead few ended =
    let keeps : h1 ++ ys ≡ h0 ++ xs = ahead_keeps h0 h1 (Some xs) (Some ys) ahead in
    sym (take_all n h1 few) ∙ ap (λ (l : List ℕ). take n l) (sym (append-nil h1) ∙ (ap (λ (l : List ℕ). h1 ++ l) (sym ended) ∙ keeps))

-- The bytes that were read ahead after some were taken.
pub held_after : (held rotated : List ℕ) (len count : ℕ) → count ≤ len → len ≤ length held → rotated ≡ drop count held ++ take count held
    → take (len - count) rotated ≡ drop count (take len held)
held_after held rotated len count within fits rotates =
    let behind : take (len - count) (drop count held ++ take count held) ≡ take (len - count) (drop count held) =
    take-append-le (len - count) (drop count held) (take count held) (omega (arith, length-drop count held, within, fits)) in
    let whole : count + (len - count) ≡ len = omega (arith, within) in
    ap (λ (l : List ℕ). take (len - count) l) rotates ∙ (behind
    ∙ (sym (drop-take count (len - count) held) ∙ ap (λ (n : ℕ). drop count (take n held)) whole))

-- A read took bytes that were read ahead.
pub takes_held : (held now buf : List ℕ) (n : ℕ) (known : Option (List ℕ)) → now ≡ drop n held → take n buf ≡ take n held
    → Consumes (prepend_known held known) (prepend_known now known) (take n buf)
takes_held held now buf n None rest front = tt
takes_held held now buf n (Some xs) rest front =
    ap (λ (l : List ℕ). l ++ xs) (sym (take-append-drop n held)) ∙ (append_assoc (take n held) (drop n held) xs
    ∙ (ap (λ (l : List ℕ). l ++ (drop n held ++ xs)) (sym front) ∙ ap (λ (l : List ℕ). take n buf ++ (l ++ xs)) (sym rest)))

-- A read of the input, of which nothing was read ahead.
pub read_bare : {E : Type 0} (held : List ℕ) (len : ℕ) (a b : Option (List ℕ)) (result : Result ℕ E) (buf : List ℕ) → len ≡ 0 → ReadConsumes a b result buf
    → ReadConsumes (prepend_known (take len held) a) (prepend_known (take len held) b) result buf
read_bare held len a b result buf none read = subst (λ (n : ℕ). ReadConsumes (prepend_known (take n held) a) (prepend_known (take n held) b) result buf) (sym none)
    (subst (λ (x : Option (List ℕ)). ReadConsumes x (prepend_known [] b) result buf) (sym (prepend_known-nil a))
    (subst (λ (y : Option (List ℕ)). ReadConsumes a y result buf) (sym (prepend_known-nil b)) read))

-- A read of bytes that were read ahead.
pub read_held : (held now buf buf_now : List ℕ) (n : ℕ) (known known_now : Option (List ℕ)) → known_now ≡ known → 0 < length held
    → n ≡ min (length held) (length buf) → length buf_now ≡ length buf → now ≡ drop n held → take n buf_now ≡ take n held
    → Consumes (prepend_known held known) (prepend_known now known_now) (take n buf_now)
    × (n ≡ 0 → 0 < length buf_now → IsAtEnd (prepend_known now known_now))
read_held held now buf buf_now n known known_now same some count len rest front = (
  subst (λ (k : Option (List ℕ)). Consumes (prepend_known held known) (prepend_known now k) (take n buf_now)) (sym same) (takes_held held now buf_now n known rest front),
  λ none room. absurd (omega (arith, none, room, count, len, some)),
)

-- A read behind the bytes that are held.
pub held_more : (held now : List ℕ) (len n : ℕ) (k k_now : Option (List ℕ)) → take len now ≡ take len held → Consumes k k_now (take n (drop len now))
    → ReadsAhead (take len held) (take (len + n) now) k k_now
held_more held now len n k k_now same took = record {
  bytes = take n (drop len now);
  took = took;
  held = sym (take-append-drop len (take (len + n) now))
      ∙ (ap (λ (l : List ℕ). l ++ drop len (take (len + n) now)) (take-take len (len + n) now (omega arith) ∙ same)
      ∙ ap (λ (l : List ℕ). take len held ++ l) (drop-take len n now));
}

-- Nothing follows where nothing was read ahead and the input is at its end.
pub held_at_end : (held : List ℕ) (len : ℕ) (known : Option (List ℕ)) (is_last : Type 0) → len ≡ 0 → IfSome known (λ xs. is_last → xs ≡ []) → is_last
    → IsAtEnd (prepend_known (take len held) known)
held_at_end held len None is_last none ends last = tt
held_at_end held len (Some xs) is_last none ends last = ap (λ (n : ℕ). take n held ++ xs) none ∙ ends last

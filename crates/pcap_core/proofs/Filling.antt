-- An array that a program fills from its front.
use Rattle.std.proofs.Common.{◌≡◌, ℕ, ◌+◌, List, [], ◌++◌, length, take, drop, refl, ap, sym, ◌∙◌, append_assoc, append-nil, length-append, arith}
use Rattle.std.proofs.lemmas.List.{take_at, drop_at, take_all, drop_all, length-drop}
use borrow.Rule.Slice.PartMut.{put_mid}

-- `all` is a front of k bytes, followed by n bytes
pub record Filled (front all : List ℕ) (k n : ℕ) : Type 0 where
  pub rest : List ℕ
  pub split : all ≡ front ++ rest
  pub filled : length front ≡ k
  pub left : length rest ≡ n

pub filled_first : (b rest all : List ℕ) (w n : ℕ) → length b ≡ w → length rest ≡ n → all ≡ b ++ rest → Filled b all w n
filled_first b rest all w n wide left made = record { rest = rest; split = made; filled = wide; left = left }

-- w more bytes are written after the front
pub filled_next : (front b all part : List ℕ) (k w n : ℕ) → length b ≡ w → Filled front all k (w + n) → part ≡ b ++ drop w (take (w + n) (drop k all))
    → Filled (front ++ b) (put_mid k (w + n) all part) (k + w) n
filled_next front b all part k w n wide f made =
    let front_is : take k all ≡ front = ap (take k) f.split ∙ take_at front f.rest k f.filled in
    let rest_is : drop k all ≡ f.rest = ap (drop k) f.split ∙ drop_at front f.rest k f.filled in
    let whole : take (w + n) f.rest ≡ f.rest = take_all (w + n) f.rest (omega (arith, f.left)) in
    let none : drop (w + n) f.rest ≡ [] = drop_all (w + n) f.rest (omega (arith, f.left)) in
    let part_is : part ≡ b ++ drop w f.rest = made ∙ rw (rest_is, whole) refl in
    record {
      rest = drop w f.rest;
      split = rw (front_is, rest_is, none, part_is, append-nil) (sym (append_assoc front b (drop w f.rest)));
      filled = length-append front b ∙ omega (arith, f.filled, wide);
      left = length-drop w f.rest ∙ omega (arith, f.left);
    }

pub filled_whole : (front all : List ℕ) (k : ℕ) → Filled front all k 0 → all ≡ front
filled_whole front all k f = f.split ∙ ap (λ (r : List ℕ). front ++ r) (drop_all 0 f.rest (omega (arith, f.left))) ∙ append-nil front

pub four : (a b d e : List ℕ) → ((a ++ b) ++ d) ++ e ≡ a ++ (b ++ (d ++ e))
four a b d e = simp append_assoc

pub seven : (a b d e f g h : List ℕ) → (((((a ++ b) ++ d) ++ e) ++ f) ++ g) ++ h ≡ a ++ (b ++ (d ++ (e ++ (f ++ (g ++ h)))))
seven a b d e f g h = simp append_assoc

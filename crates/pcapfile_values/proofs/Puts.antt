-- Texts that are written into a room, one after the other.
use Rattle.std.proofs.Common.{◌≡◌, ℕ, ◌+◌, List, ◌++◌, length, take, drop, sym, ap, ◌∙◌, append_assoc, append-nil, length-append, take-append-drop, length-drop, arith}
use Rattle.std.proofs.lemmas.List.{drop_all, take_at, length-take-le}
use Rattle.std.proofs.Math.Seq.{drop-append-add}
use Rattle.pcapfile_values.specs.BlockTexts.{PutsAt}

-- Dropping a front and m more bytes drops m bytes of the rest.
drop_behind : (front rest all : List ℕ) (n m : ℕ) → length front ≡ n → all ≡ front ++ rest → drop (n + m) all ≡ drop m rest
drop_behind front rest all n m long parts = ap (drop (n + m)) parts ∙ ap (λ (k : ℕ). drop (k + m) (front ++ rest)) (sym long) ∙ drop-append-add front rest m

-- Writing a second text after the first, which has w bytes, writes both.
pub puts_both : {at behind : ℕ} {a b old mid now : List ℕ} → (w : ℕ) → length a ≡ w → behind ≡ at + w → PutsAt at a old mid → PutsAt behind b mid now → PutsAt at (a ++ b) old now
puts_both {at = at} {behind = behind} {a = a} {b = b} {old = old} {mid = mid} {now = now} w wide end p q =
    let front = take at old ++ a in
    let rest = drop (at + length a) old in
    let taken : length (take at old) ≡ at = length-take-le at old (omega (arith, p.within)) in
    let long : length front ≡ behind = length-append (take at old) a ∙ omega (arith, taken, end, wide) in
    let parts : mid ≡ front ++ rest = p.is ∙ sym (append_assoc (take at old) a rest) in
    let before : take behind mid ≡ front = ap (take behind) parts ∙ take_at front rest behind long in
    let both : length (a ++ b) ≡ length a + length b = length-append a b in
    let begun : length (take (at + length a) old) ≡ at + length a = length-take-le (at + length a) old p.within in
    let after : drop (behind + length b) mid ≡ drop (at + length (a ++ b)) old =
    drop_behind front rest mid behind (length b) long parts
    ∙ sym (drop_behind (take (at + length a) old) rest old (at + length a) (length b) begun (sym (take-append-drop (at + length a) old)))
    ∙ ap (λ (k : ℕ). drop k old) (omega (arith, both)) in
    record {
      within = omega (arith, both, q.within, end, wide, ap length parts, length-append front rest, long, p.within, length-drop (at + length a) old);
      is = q.is ∙ rw (before, after) (simp append_assoc);
    }

-- A text as long as the room is all of it.
pub puts_all : {text old now : List ℕ} → PutsAt 0 text old now → length text ≡ length old → now ≡ text
puts_all {text = text} {old = old} p long = p.is ∙ ap (λ (l : List ℕ). text ++ l) (drop_all (0 + length text) old (omega (arith, long))) ∙ append-nil text

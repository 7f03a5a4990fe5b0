-- Lemmas about bytes that come from a stream and are added to those that are held.
use Rattle.std.proofs.Common.{◌≡◌, ℕ, List, ◌++◌, ◌+◌, ◌≤◌, length, take, drop, ap, sym, ◌∙◌, subst, arith, append_assoc, length-append, length-drop}
use Rattle.std.specs.Prelude.{Option}
use Rattle.std.proofs.lemmas.List.{length-take-le}
use Rattle.std.proofs.Math.Seq.{take-add, take-append_seam}
use Rattle.std.specs.Io.KnownBytes.{Consumes, Keeps}
use Rattle.std.proofs.KnownBytes.{Consumes-trans, Consumes-kept}
use Rattle.pcap_items.specs.Streams.{Adds}

-- a read into the room after the held bytes
pub adds_read : (old room : List ℕ) (before after : Option (List ℕ)) (at n : ℕ) → take at room ≡ old → at + n ≤ length room
    → Consumes before after (take n (drop at room)) → Adds old (take (at + n) room) before after n
adds_read old room before after at n front fits came = record {
  taken = take n (drop at room);
  count = length-take-le n (drop at room) (omega (arith, length-drop at room));
  added = take-add at n room ∙ ap (λ l. l ++ take n (drop at room)) front;
  from_stream = came;
}

-- the same for a vector that lends its room as a slice
pub adds_lent : (old room tail : List ℕ) (before after : Option (List ℕ)) (at all n : ℕ) → all ≡ length room → take at room ≡ old → at + n ≤ length room
    → Consumes before after (take n (drop at room)) → Adds old (take (at + n) (take all (room ++ tail))) before after n
adds_lent old room tail before after at all n whole front fits came =
    let back : take all (room ++ tail) ≡ room = ap (λ k. take k (room ++ tail)) whole ∙ take-append_seam room tail in
    subst (λ (l : List ℕ). Adds old (take (at + n) l) before after n) (sym back) (adds_read old room before after at n front fits came)

pub adds_more : (a b c : List ℕ) (r s t : Option (List ℕ)) (m k n : ℕ) → n ≡ m + k → Adds a b r s m → Adds b c s t k → Adds a c r t n
adds_more a b c r s t m k n sum first second = record {
  taken = first.taken ++ second.taken;
  count = length-append first.taken second.taken ∙ omega (arith, first.count, second.count);
  added = second.added ∙ ap (λ l. l ++ second.taken) first.added ∙ append_assoc a first.taken second.taken;
  from_stream = Consumes-trans r s t first.taken second.taken first.from_stream second.from_stream;
}

-- added bytes stay if a later read fails
pub adds_kept : (a b c : List ℕ) (r s t : Option (List ℕ)) (n : ℕ) → Adds a b r s n → c ≡ b → Keeps s t → Adds a c r t n
adds_kept a b c r s t n adds same kept = record {
  taken = adds.taken;
  count = adds.count;
  added = same ∙ adds.added;
  from_stream = Consumes-kept r s t adds.taken adds.from_stream kept;
}

-- an array that is filled from its front
pub came_more : (old new : List ℕ) (a b c : Option (List ℕ)) (at n : ℕ) → Consumes a b (take at old) → take at new ≡ take at old
    → Consumes b c (take n (drop at new)) → Consumes a c (take (at + n) new)
came_more old new a b c at n first same second =
    subst (λ l. Consumes a c l) (ap (λ l. l ++ take n (drop at new)) (sym same) ∙ sym (take-add at n new))
    (Consumes-trans a b c (take at old) (take n (drop at new)) first second)

-- the held bytes as they came, after more came
pub held_more : (held new : List ℕ) (a b c : Option (List ℕ)) (n : ℕ) → Consumes a b held → Adds held new b c n → Consumes a c new
held_more held new a b c n came adds =
    subst (λ l. Consumes a c l) (sym adds.added) (Consumes-trans a b c held adds.taken came adds.from_stream)

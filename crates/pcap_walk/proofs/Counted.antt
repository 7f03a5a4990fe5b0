-- A sink that counts bytes, and the counts of its walk.
use Rattle.std.proofs.Common.{◌≡◌, ◌<◌, ◌+◌, ◌^◌, ℕ, List, [], ◌∷◌, length, Bool, true, Option, refl, sym, ap, ◌∙◌, subst, arith, length-append}
use Rattle.pcap_core.specs.declared.errors.PcapError.{PcapError}
use Rattle.pcap_items.specs.Format.{Format}
use Rattle.pcap_walk.specs.declared.counting.Counting.{Counting}
use Rattle.pcap_walk.specs.declared.walking.Ended.{Ended}
use Rattle.pcap_walk.specs.CountedItems.{counted, CountsItem, CountsItems}
use Rattle.pcap_walk.specs.Walks.{does_of, Folds, TakesAndKeeps, EndsWalk, IsStop, fault_of}
use Rattle.pcap_walk.proofs.Walks.{walk_keeps}

-- Counting continues from an earlier count.
counted_more : (a b c m n : ℕ) → b ≡ counted (a + m) → c ≡ counted (b + n) → c ≡ counted (a + (m + n))
counted_more a b c m n first second = omega arith

module _ (E : Type 0) {F H V : Type 0} (value : F → H → List ℕ → V) where
  -- The bytes of items are counted.
  pub counts_folded : (n : ℕ) (vs : List V) (bytes : List ℕ) (old new : Counting) (out out_now : Option (List ℕ)) → old.bytes < 2 ^ 64
      → Folds (does_of {E = E} value (λ index (c : Counting). true) (λ index walker head text (o : Counting) p (w : Counting) p_now result. CountsItem text o.bytes p w.bytes p_now result)) n vs bytes old out new out_now
      → new.bytes ≡ counted (old.bytes + length bytes)
  counts_folded n [] bytes old new out out_now room folds = omega (arith, room, ap length folds.0, ap (λ (c : Counting). c.bytes) folds.1)
  counts_folded n (v ∷ vs) bytes old new out out_now room folds =
      let first = folds.7.4.0 in
      let kept : Counting = folds.2 in
      let more = counts_folded (n + 1) vs folds.1 kept new folds.4 out_now (omega (arith, first)) folds.8 in
      counted_more old.bytes kept.bytes new.bytes (length folds.0) (length folds.1) first more ∙ ap (λ (k : ℕ). counted (old.bytes + k)) (sym (ap length folds.5 ∙ length-append folds.0 folds.1))

  -- A walk that keeps counts has counted its items and their bytes.
  pub counts_kept : {S : Type 0} (f : Format S V) (q : S) (before now : Option (List ℕ)) (failed : Bool) (most n m : ℕ) (old new : Counting) (out out_now : Option (List ℕ)) (fault : Option PcapError) → n ≡ 0 → old.bytes < 2 ^ 64
      → TakesAndKeeps f (does_of {E = E} value (λ index (c : Counting). true) (λ index walker head text (o : Counting) p (w : Counting) p_now result. CountsItem text o.bytes p w.bytes p_now result)) q before now failed most m old new out out_now fault
      → CountsItems f q before now failed most n m old.bytes new.bytes fault
  counts_kept f q before now failed most n m old new out out_now fault none room keeps = record {
    items = keeps.items;
    run = keeps.run;
    number = omega (arith, none, keeps.count);
    bytes = counts_folded 0 keeps.items keeps.run.took.bytes old new out out_now room keeps.kept;
  }

  -- The counts of a walk in which the sink did not stop.
  pub counts_walked : {S : Type 0} (f : Format S V) (IsUnready : E → Type 0) (q : S) (before now : Option (List ℕ)) (failed : Bool) (most n m : ℕ) (old new : Counting) (out out_now : Option (List ℕ)) (ended : Ended E) → n ≡ 0 → old.bytes < 2 ^ 64
      → (IsStop ended → ⊥)
      → EndsWalk f (does_of {E = E} value (λ index (c : Counting). true) (λ index walker head text (o : Counting) p (w : Counting) p_now result. CountsItem text o.bytes p w.bytes p_now result)) IsUnready (λ index counting. true) q before now failed most n m old new out out_now ended
      → CountsItems f q before now failed most n m old.bytes new.bytes (fault_of ended)
  counts_walked f IsUnready q before now failed most n m old new out out_now ended none room goes walk =
      let does = does_of {E = E} value (λ index (c : Counting). true) (λ index walker head text (o : Counting) p (w : Counting) p_now result. CountsItem text o.bytes p w.bytes p_now result) in
      let from = subst (λ (k : ℕ). EndsWalk f does IsUnready (λ index counting. true) q before now failed most k m old new out out_now ended) none walk in
      counts_kept f q before now failed most n m old new out out_now (fault_of ended) none room (walk_keeps f does IsUnready (λ index counting. true) (λ index counting. refl) q before now failed most m old new out out_now ended goes from)

-- The best source so far, and one more source.
use Rattle.std.proofs.Common.{◌≡◌, ◌+◌, ◌<◌, ◌≤◌, ℕ, List, [], ◌∷◌, ◌++◌, length, take, get_or, arith, Option, None, Some, inl, inr, refl, sym, ap, ◌∙◌, subst}
use Rattle.std.proofs.lemmas.List.{take_more, take_all, length-take}
use Rattle.pcapfile_merge.specs.declared.choice.Best.{Best}
use Rattle.pcapfile_merge.specs.declared.choice.PacketOrder.{PacketOrder}
use Rattle.pcapfile_merge.specs.declared.packet.Pending.{Pending}
use Rattle.pcapfile_merge.specs.declared.source.Source.{Source}
use Rattle.pcapfile_merge.specs.Choosing.{BestWith, IsBest, IsFirst}
use Rattle.pcapfile_merge.specs.Merges.{IsNotBefore}
use Rattle.pcapfile_merge.specs.Packets.{Packet, IsEarlierIn}
use Rattle.pcapfile_merge.specs.Holding.{bytes_in, held_by}
use Rattle.pcapfile_merge.specs.Sources.{pending_of}
use Rattle.pcapfile_merge.specs.Taking.{packet_in}
use Rattle.pcapfile_merge.proofs.Choices.{all_push, chosen_stays, chosen_first, chosen_instead}
use Rattle.pcapfile_merge.proofs.Times.{in_transitive, in_through}

module _ {R : Type 0} (order : PacketOrder) (xs : List (Source R)) (x : Source R) where
  none_more : (best : Option Best) → pending_of x ≡ [] → IsBest order xs best → IsBest order (xs ++ x ∷ []) best
  none_more None holds ended = all_push (λ (s : Source R). pending_of s ≡ []) xs x ended holds
  none_more (Some best) holds found =
      (found.0, found.1, chosen_stays (IsEarlierIn order) pending_of xs x best.place found.0 found.2 (subst (λ (held : List Packet). IsNotBefore (IsEarlierIn order) found.0 held) (sym holds) tt))

  some_more : (q : Packet) (best : Option Best) (new : Option Best) (next : Pending) → q.time ≡ next.time → pending_of x ≡ q ∷ [] → IsBest order xs best → BestWith order best (length xs) (Some next) new → IsBest order (xs ++ x ∷ []) new
  some_more q None new next time holds ended is =
      subst (IsBest order (xs ++ x ∷ [])) (sym is) (q, sym time, chosen_first (IsEarlierIn order) pending_of xs x q ended holds)
  some_more q (Some best) new next time holds found (inl stays) =
      let not_earlier : IsEarlierIn order q found.0 → ⊥ = λ earlier. stays.0 (rw (← time, found.1) earlier) in
      subst (IsBest order (xs ++ x ∷ [])) (sym stays.1)
      (found.0, found.1, chosen_stays (IsEarlierIn order) pending_of xs x best.place found.0 found.2 (subst (λ (held : List Packet). IsNotBefore (IsEarlierIn order) found.0 held) (sym holds) not_earlier))
  some_more q (Some best) new next time holds found (inr instead) =
      let earlier : IsEarlierIn order q found.0 = rw (time, ← found.1) instead.0 in
      subst (IsBest order (xs ++ x ∷ [])) (sym instead.1)
      (q, sym time, chosen_instead (IsEarlierIn order) pending_of (λ a b c. in_through order a.time b.time c.time) (λ a b c. in_transitive order a.time b.time c.time) xs x best.place found.0 q found.2 holds earlier)

  best_more_at : (next : Option Pending) (best new : Option Best) → x.taken.next ≡ next → IsBest order xs best → BestWith order best (length xs) next new → IsBest order (xs ++ x ∷ []) new
  best_more_at None best new is found with_ = subst (IsBest order (xs ++ x ∷ [])) (sym with_) (none_more best (ap (held_by x.reader) is) found)
  best_more_at (Some next) best new is found with_ = some_more (packet_in (bytes_in x.reader next) next) best new next refl (ap (held_by x.reader) is) found with_

  pub best_more : (best new : Option Best) → IsBest order xs best → BestWith order best (length xs) x.taken.next new → IsBest order (xs ++ x ∷ []) new
  best_more best new found with_ = best_more_at x.taken.next best new refl found with_

-- One turn of the search finds the best of one more source.
pub best_turn : {R : Type 0} (order : PacketOrder) (xs : List (Source R)) (place : ℕ) (x : Source R) (best new : Option Best) (next : Option Pending) → place < length xs → x ≡ get_or xs place x → next ≡ x.taken.next → IsBest order (take place xs) best
    → BestWith order best place next new → IsBest order (take (place + 1) xs) new
best_turn order xs place x best new next within is next_is found with_ =
    let more : take (place + 1) xs ≡ take place xs ++ x ∷ [] = take_more xs place x within ∙ ap (λ (y : Source _). take place xs ++ y ∷ []) (sym is) in
    let long : place ≡ length (take place xs) = omega (arith, length-take place xs, within) in
    let there = subst (λ (n : Option Pending). BestWith order best place n new) next_is with_ in
    let turned = subst (λ (k : ℕ). BestWith order best k x.taken.next new) long there in
    subst (λ (l : List (Source _)). IsBest order l new) (sym more) (best_more order (take place xs) x best new found turned)

pub best_all : {R : Type 0} (order : PacketOrder) (xs : List (Source R)) (n : ℕ) (best : Option Best) → length xs ≤ n → IsBest order (take n xs) best → IsBest order xs best
best_all order xs n best all found = subst (λ (l : List (Source _)). IsBest order l best) (take_all n xs all) found

-- The best source is at its index.
pub best_place : {R : Type 0} (order : PacketOrder) (xs : List (Source R)) (best : Best) → IsBest order xs (Some best) → (p : Packet) × IsFirst order xs best.place p
best_place order xs best found = (found.0, found.2)

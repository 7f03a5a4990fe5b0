-- Items of a selection that are made one after another.
use Rattle.std.proofs.Common.{◌≡◌, ◌++◌, ℕ, List, [], ◌∷◌, Option, Result, Ok, Err, inr, refl, subst}
use Rattle.std.specs.declared.io.Error.{Error}
use Rattle.pcapfile_selected.specs.declared.selected.Selected.{Selected}
use Rattle.pcapfile_selected.specs.SelectedItems.{MakesAll, MakesItems, MakesMore, MakesOne, Empties, Refills, TellsFailure, unread}

-- One more item was made.
pub makes_more : {R : Type 0} (remaining : R → Option (List ℕ)) (old mid new : Selected R) (steps : List (Selected R)) → MakesAll remaining old steps mid
    → MakesOne remaining mid new (Ok tt) → MakesAll remaining old (steps ++ new ∷ []) new
makes_more remaining old mid new [] same one = (subst (λ (s : Selected _). MakesOne remaining s new (Ok tt)) same one, refl)
makes_more remaining old mid new (next ∷ steps) makes one = (makes.0, makes_more remaining next mid new steps makes.1 one)

-- Items were made in place of the bytes that were read, and a failure was returned or none was.
pub made_more : {R : Type 0} (remaining : R → Option (List ℕ)) (old begun mid new : Selected R) (result : Result (Unit {0}) Error) → Empties old begun
    → MakesItems remaining begun mid (Ok tt) → TellsFailure mid new result → MakesMore remaining old new result
made_more remaining old begun mid new result empties makes tells = record { begun = begun; empties = empties; makes = inr (mid, makes, tells) }

-- All bytes that were made had been read, and more were made, or that failed.
pub refilled : {R : Type 0} (remaining : R → Option (List ℕ)) (old new : Selected R) (result : Result (Unit {0}) Error) → unread old ≡ []
    → MakesMore remaining old new result → Refills remaining old new result
refilled remaining old new (Ok u) none makes = inr (none, makes)
refilled remaining old new (Err e) none makes = (none, makes)

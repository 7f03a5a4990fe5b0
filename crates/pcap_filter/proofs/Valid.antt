-- Proofs about programs that keep all rules.
use Rattle.std.proofs.Common.{◌≡◌, ◌<◌, ◌≤◌, ◌+◌, ◌-◌, ◌++◌, ℕ, zero, suc, List, [], ◌∷◌, length, get_or, take, drop, refl, sym, subst, ap, ◌∙◌, arith, length-append, length-drop, take-append-drop, zero-add}
use Rattle.std.proofs.Common.{drop-cons, length-take-le, take-suc, take_all}
use Rattle.pcap_filter.specs.declared.errors.Rule.{Rule}
use Rattle.pcap_filter.specs.declared.program.Instruction.{Instruction}
use Rattle.pcap_filter.specs.declared.program.Step.{Step}
use Rattle.pcap_filter.specs.Programs.{AllFine, AllMean, Breaks, BreaksAt, IsFine, IsProgram, IsTaken, Means}

-- The rest of steps that keep all rules keeps all rules.
pub fine_rest : (over : ℕ) (steps : List Step) → AllFine steps → AllFine (drop over steps)
fine_rest zero steps fine = fine
fine_rest (suc over) [] fine = tt
fine_rest (suc over) (step ∷ steps) fine = fine_rest over steps fine.1

pub same_count : (behind : ℕ) (instructions : List Instruction) (steps : List Step) → AllMean instructions behind steps → length steps ≡ length instructions
same_count behind [] [] mean = refl
same_count behind [] (step ∷ steps) mean = absurd mean
same_count behind (instruction ∷ instructions) [] mean = absurd mean
same_count behind (instruction ∷ instructions) (step ∷ steps) mean = ap suc (same_count behind instructions steps mean.1)

-- The steps that instructions mean keep all rules.
pub mean_fine : (instructions : List Instruction) (steps : List Step) → AllMean instructions 0 steps → AllFine steps
mean_fine [] [] mean = tt
mean_fine [] (step ∷ steps) mean = absurd mean
mean_fine (instruction ∷ instructions) [] mean = absurd mean
mean_fine (instruction ∷ instructions) (step ∷ steps) mean =
    let same : length instructions + 0 ≡ length steps = omega (arith, same_count 0 instructions steps mean.1) in
    (subst (λ n. IsFine step n) same mean.0.1, mean_fine instructions steps mean.1)

pub taken_is_program : (program : List Instruction) (steps : List Step) → IsTaken program steps → IsProgram steps
taken_is_program program steps taken = record {
  some = omega (arith, same_count 0 program steps taken.mean, taken.some);
  most = omega (arith, same_count 0 program steps taken.mean, taken.most);
  fine = mean_fine program steps taken.mean;
}

-- One more instruction may follow instructions that mean steps.
pub mean_more : (behind : ℕ) (front : List Instruction) (steps : List Step) (instruction : Instruction) (step : Step) →
    AllMean front (1 + behind) steps → Means instruction behind step → AllMean (front ++ (instruction ∷ [])) behind (steps ++ (step ∷ []))
mean_more behind [] [] instruction step mean more = (subst (λ n. Means instruction n step) (sym (zero-add behind)) more, tt)
mean_more behind [] (other ∷ steps) instruction step mean more = absurd mean
mean_more behind (first ∷ front) [] instruction step mean more = absurd mean
mean_more behind (first ∷ front) (other ∷ steps) instruction step mean more =
    let same : length front + (1 + behind) ≡ length (front ++ (instruction ∷ [])) + behind = simp length-append (omega arith) in
    (subst (λ n. Means first n other) same mean.0, mean_more behind front steps instruction step mean.1 more)

-- If all instructions were read, the program is accepted.
pub taken_whole : (program : List Instruction) (steps : List Step) (index : ℕ) → 0 < length program → length program ≤ 4096 → length program ≤ index → index ≤ length program →
    AllMean (take index program) (length program - index) steps → IsTaken program steps
taken_whole program steps index some most all inside mean =
    let none : length program - index ≡ 0 = omega (arith, all) in
    record {
      some = some;
      most = most;
      mean = subst (λ l. AllMean l 0 steps) (take_all index program all) (subst (λ n. AllMean (take index program) n steps) none mean);
    }

-- If the next instruction means a step, one more instruction was read.
pub mean_next : (program : List Instruction) (index behind : ℕ) (steps now : List Step) (other : Instruction) (step : Step) → index < length program →
    AllMean (take index program) (length program - index) steps → Means (get_or program index other) behind step → behind ≡ length program - (index + 1) →
    now ≡ steps ++ (step ∷ []) → AllMean (take (index + 1) program) (length program - (index + 1)) now
mean_next program index behind steps now other step inside mean more left pushed =
    let before : length program - index ≡ 1 + behind = omega (arith, left, inside) in
    let next : index + 1 ≡ suc index = omega arith in
    let longer : take (index + 1) program ≡ take index program ++ (get_or program index other ∷ []) = ap (λ n. take n program) next ∙ take-suc program index other inside in
    let all = mean_more behind (take index program) steps (get_or program index other) step (subst (λ n. AllMean (take index program) n steps) before mean) more in
    let there = subst (λ l. AllMean l behind (steps ++ (step ∷ []))) (sym longer) all in
    subst (λ n. AllMean (take (index + 1) program) n now) left (subst (λ l. AllMean (take (index + 1) program) behind l) (sym pushed) there)

-- If the next instruction breaks a rule, it is the first that does.
pub breaks_here : (program : List Instruction) (index place behind : ℕ) (steps : List Step) (other : Instruction) (broken : Rule) → index < length program →
    place ≡ index → behind ≡ length program - (index + 1) → AllMean (take index program) (length program - index) steps →
    Breaks (get_or program index other) behind broken → BreaksAt program place broken
breaks_here program index place behind steps other broken inside here left mean breaks =
    let rest : length (drop (suc index) program) ≡ length program - suc index = length-drop (suc index) program in
    let same : behind ≡ length (drop (suc index) program) = omega (arith, rest, left) in
    let from : length program - index ≡ suc (length (drop (suc index) program)) = omega (arith, rest, inside) in
    record {
      before = take index program;
      instruction = get_or program index other;
      behind = drop (suc index) program;
      parts = sym (take-append-drop index program) ∙ ap (λ l. take index program ++ l) (drop-cons program index other inside);
      place_is = here ∙ sym (length-take-le index program (omega (arith, inside)));
      steps = steps;
      fine_before = subst (λ n. AllMean (take index program) n steps) from mean;
      broken_here = subst (λ n. Breaks (get_or program index other) n broken) same breaks;
    }

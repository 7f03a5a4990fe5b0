-- A run goes on by one step.
use Rattle.std.proofs.Common.{◌≡◌, ◌<◌, ◌≤◌, ◌+◌, ◌-◌, ℕ, zero, suc, List, [], ◌∷◌, length, get_or, drop, refl, sym, subst, ap, ◌∙◌, arith, length-drop}
use Rattle.std.proofs.Common.{drop-cons, drop-drop}
use Rattle.pcap_filter.specs.declared.program.Step.{Step}
use Rattle.pcap_filter.specs.Effects.{Machine, Effect, Goes, Ends, effect, start}
use Rattle.pcap_filter.specs.Codes.{kind_of}
use Rattle.pcap_filter.specs.Programs.{AllFine, HasNumber, IsFine, IsProgram}
use Rattle.pcap_filter.specs.Runs.{Runs, returns, goes_on}
use Rattle.pcap_filter.proofs.Inside.{PassesBelow, acts_inside}
use Rattle.pcap_filter.proofs.Valid.{fine_rest}

-- Comes: a run from the first step comes to this place in this machine.
pub record Comes (steps : List Step) (packet : List ℕ) (original place : ℕ) (machine : Machine) : Type 0 where
  pub inside : place < length steps
  pub most : length steps ≤ 4096
  pub fine : AllFine steps
  pub goes : (value : ℕ) → Runs packet original (drop place steps) machine value → Runs packet original steps start value

-- A run begins at the first step.
pub comes_first : (steps : List Step) (packet : List ℕ) (original : ℕ) → IsProgram steps → Comes steps packet original 0 start
comes_first steps packet original valid = record { inside = valid.some; most = valid.most; fine = valid.fine; goes = λ value run. run }

-- The step at a place keeps all rules.
pub fine_here : (steps : List Step) (place : ℕ) (other : Step) → AllFine steps → place < length steps → IsFine (get_or steps place other) (length steps - suc place)
fine_here steps place other fine inside =
    let here = subst AllFine (drop-cons steps place other inside) (fine_rest place steps fine) in
    subst (λ n. IsFine (get_or steps place other) n) (length-drop (suc place) steps) here.0

pub number_here : (steps : List Step) (place : ℕ) (other : Step) → AllFine steps → place < length steps →
    HasNumber (kind_of (get_or steps place other).operation) (get_or steps place other).k
number_here steps place other fine inside = (fine_here steps place other fine inside).0

-- A step that ends the program gives the result of the run.
pub comes_end : (steps : List Step) (packet : List ℕ) (original place : ℕ) (machine : Machine) (other : Step) (value : ℕ) →
    Comes steps packet original place machine → effect (get_or steps place other) packet original machine ≡ Ends value → Runs packet original steps start value
comes_end steps packet original place machine other value comes ends =
    comes.goes value (returns (drop place steps) (drop (suc place) steps) (get_or steps place other) machine value (drop-cons steps place other comes.inside) ends)

-- A step that goes on leads to a place inside the program.
pub stays : (steps : List Step) (packet : List ℕ) (original place : ℕ) (machine next : Machine) (other : Step) (over : ℕ) →
    Comes steps packet original place machine → effect (get_or steps place other) packet original machine ≡ Goes next over → place + (1 + over) < length steps
stays steps packet original place machine next other over comes goes =
    let step = get_or steps place other in
    let fine = fine_here steps place other comes.fine comes.inside in
    let below = subst (λ e. PassesBelow e (length steps - suc place)) goes (acts_inside step.operation step packet original machine (length steps - suc place) fine.1) in
    omega (arith, below, comes.inside)

pub comes_next : (steps : List Step) (packet : List ℕ) (original place : ℕ) (machine next : Machine) (other : Step) (over : ℕ) →
    Comes steps packet original place machine → effect (get_or steps place other) packet original machine ≡ Goes next over →
    Comes steps packet original (place + (1 + over)) next
comes_next steps packet original place machine next other over comes goes = record {
  inside = stays steps packet original place machine next other over comes goes;
  most = comes.most;
  fine = comes.fine;
  goes = λ value run.
      let same : suc place + over ≡ place + (1 + over) = omega arith in
      let behind : drop over (drop (suc place) steps) ≡ drop (place + (1 + over)) steps = drop-drop over (suc place) steps ∙ ap (λ n. drop n steps) same in
      comes.goes value (goes_on (drop place steps) (drop (suc place) steps) (get_or steps place other) machine next over value
      (drop-cons steps place other comes.inside) goes (subst (λ rest. Runs packet original rest next value) (sym behind) run));
}

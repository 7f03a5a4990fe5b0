-- The answers of a format's parser about a broken rule, and what is found in them.
use Rattle.std.proofs.Common.{ℕ, List, Result, Ok, Err}
use Rattle.std.specs.Borrow.{Bor}
use Rattle.std.specs.Result.{IsErrAnd}
use Rattle.pcap_core.specs.declared.errors.PcapError.{PcapError}
use Rattle.pcap_core.specs.declared.errors.PcapError.TheVariants as errors
use Rattle.pcap_core.specs.declared.rules.Rule.{Rule}
use Rattle.pcap_core.specs.Answer.{Verdict, faulty, TellsWhere}
use Rattle.pcap_core.specs.Faults.{Invalid, Names}
use Rattle.pcap_core.proofs.Refusals.{named_shows}
use Rattle.pcap_items.specs.Filling.{StatesRest, TellsSettled}
use Rattle.pcap_items.specs.Found.{found_of, FindsWhere}

-- a head that `?` refuses with a rule's error
pub named_states : {H V : Type 0} (IsSaid : List ℕ → Verdict V → Type 0) (Knows : H → ℕ → List ℕ → Type 0) (s : List ℕ) (rule : Rule) (result : Result (H × ℕ) PcapError)
    → IsSaid s (faulty (Invalid rule)) → IsErrAnd result (Names rule) → StatesRest IsSaid Knows s result
named_states IsSaid Knows s rule (Err e) stands named = named_shows (λ fault. IsSaid s (faulty fault)) rule e stands named
named_states IsSaid Knows s rule (Ok x) stands named = absurd named

-- filled bytes that `?` refuses with a rule's error
pub named_settles : {X V : Type 0} (IsSaid : Verdict V → Type 0) (view : X → V) (rule : Rule) (result : Result X PcapError) → IsSaid (faulty (Invalid rule)) → IsErrAnd result (Names rule) → TellsSettled IsSaid view result
named_settles IsSaid view rule (Err e) stands named = named_shows (λ fault. IsSaid (faulty fault)) rule e stands named
named_settles IsSaid view rule (Ok x) stands named = absurd named

-- the result of a parser, and what is found in it
pub found_tells : {X V : Type 0} (M : Type 0) (IsSaid : Verdict V → Type 0) (view : X → V) (answer : Result (Bor (List ℕ) × X) PcapError) → TellsWhere M IsSaid view answer → FindsWhere M IsSaid view (found_of answer)
found_tells M IsSaid view (Ok x) tells = tells
found_tells M IsSaid view (Err (errors.IncompleteBuffer n)) tells = tells
found_tells M IsSaid view _ tells = tells

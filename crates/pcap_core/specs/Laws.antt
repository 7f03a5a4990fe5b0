-- Laws of a grammar that hold for all bytes.
use Rattle.std.specs.Prelude.{◌≡◌, ◌<◌, ◌-◌, ℕ, List, ◌++◌, length}
use Rattle.pcap_core.specs.Answer.{Verdict, whole, lacks, faulty}
use Rattle.pcap_core.specs.Faults.{Fault}

-- ExactlyOne P: P holds of one value and of no other.
pub record ExactlyOne {X : Type 0} (P : X → Type 0) : Type 0 where
  pub value : X
  pub holds : P value
  pub only : (other : X) → P other → other ≡ value

-- IsStable Of: more bytes change neither a value nor a fault, and they are added to the rest.
pub record IsStable {V : Type 0} (Of : List ℕ → Verdict V → Type 0) : Type 0 where
  pub text : (s more rest : List ℕ) (value : V) → Of s (whole value rest) → Of (s ++ more) (whole value (rest ++ more))
  pub fault : (s more : List ℕ) (fault : Fault) → Of s (faulty fault) → Of (s ++ more) (faulty fault)
  -- if fewer bytes are added than are missing, the number of missing bytes decreases by as many
  pub request : (s more : List ℕ) (n : ℕ) → length more < n → Of s (lacks n) → Of (s ++ more) (lacks (n - length more))

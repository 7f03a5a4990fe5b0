-- A fault that is certain before the item is whole.
use Rattle.std.specs.Prelude.{◌≡◌, ℕ, List, ◌++◌, length}
use Rattle.pcap_core.specs.Answer.{Verdict, lacks, faulty}
use Rattle.pcap_core.specs.Bytes.{IsBytes}
use Rattle.pcap_core.specs.Faults.{Fault}

-- EarlyFault IsSaid s fault: n bytes are missing, and there is this fault whatever bytes they are.
pub record EarlyFault {V : Type 0} (IsSaid : List ℕ → Verdict V → Type 0) (s : List ℕ) (fault : Fault) : Type 0 where
  pub n : ℕ
  pub lack : IsSaid s (lacks n)
  pub certain : (more : List ℕ) → IsBytes more → length more ≡ n → IsSaid (s ++ more) (faulty fault)

-- A verdict that is either a value or a fault, never both.
use Rattle.std.proofs.Common.{◌≡◌, ℕ, List, refl}
use Rattle.pcap_core.specs.Answer.{Verdict, whole, lacks, faulty}
use Rattle.pcap_core.specs.Faults.{Fault}
use Rattle.pcap_core.specs.Laws.{ExactlyOne}

-- The verdict is one value or one fault, and never a lack of bytes.
pub record IsDecided {V : Type 0} (Says : Verdict V → Type 0) : Type 0 where
  pub wholes : (x y : V) (a b : List ℕ) → Says (whole x a) → Says (whole y b) → (y ≡ x) × (b ≡ a)
  pub faults : (f g : Fault) → Says (faulty f) → Says (faulty g) → g ≡ f
  pub not_both : (x : V) (a : List ℕ) (f : Fault) → Says (whole x a) → Says (faulty f) → ⊥
  pub no_lack : (n : ℕ) → Says (lacks n) → ⊥

pub same_said : {V : Type 0} {Says : Verdict V → Type 0} → IsDecided Says → (v w : Verdict V) → Says v → Says w → w ≡ v
same_said is (whole x a) (whole y b) h k = let e = is.wholes x y a b h k in rw (e.0, e.1) refl
same_said is (whole x a) (faulty g) h k = absurd (is.not_both x a g h k)
same_said is (faulty f) (whole y b) h k = absurd (is.not_both y b f k h)
same_said is (faulty f) (faulty g) h k = rw (is.faults f g h k) refl
same_said is (lacks n) w h k = absurd (is.no_lack n h)
same_said is v (lacks n) h k = absurd (is.no_lack n k)

pub one_said : {V : Type 0} (Says : Verdict V → Type 0) → IsDecided Says → (v : Verdict V) → Says v → ExactlyOne Says
one_said Says is v h = record { value = v; holds = h; only = λ w k. same_said is v w h k }

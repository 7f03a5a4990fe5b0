-- Conditions under which a call may allocate: the bytes have something that the call keeps in a list.
use Rattle.std.specs.Prelude.{ℕ, List}
use Rattle.pcap_core.specs.Padded.{Behind}

-- `s` begins with something that has this text.
pub record BeginsWith {V : Type 0} (IsText : V → List ℕ → List ℕ → Type 0) (s : List ℕ) : Type 0 where
  pub value : V
  pub rest : List ℕ
  pub text : IsText value s rest

-- This holds of the bytes after the first `n` bytes of `s`.
pub record HoldsAfter (n : ℕ) (Holds : List ℕ → Type 0) (s : List ℕ) : Type 0 where
  pub after : List ℕ
  pub behind : Behind n s after
  pub holds : Holds after

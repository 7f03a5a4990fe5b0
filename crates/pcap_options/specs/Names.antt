-- Names: strings without a zero byte, each followed by a zero byte ('Name Resolution Block').
use Rattle.std.specs.Prelude.{◌≡◌, ◌≢◌, ℕ, List, [], ◌∷◌, ◌++◌, Ok, Err, All}
use Rattle.pcap_core.specs.Answer.{Verdict, Says}
use Rattle.pcap_core.specs.Faults.{Fault, Invalid}
use Rattle.pcap_core.specs.declared.rules.Rule.TheVariants.{NameUnended}
use Rattle.pcap_core.specs.Padded.{Chain}
use Rattle.pcap_options.specs.Values.{string_at}
use Rattle.pcap_options.specs.Growth.{BeginsWith}

-- No byte of the list is zero.
abbrev pub HasNoZero : List ℕ → Type 0
HasNoZero bytes = All (λ b. b ≢ 0) bytes

-- `s` is a name, a zero byte, and then `rest`.
pub record NameText (name s rest : List ℕ) : Type 0 where
  pub parts : s ≡ name ++ 0 ∷ rest
  pub no_zero : HasNoZero name
  pub string : string_at name ≡ Ok name

-- The first fault of `s` as a name: no zero byte, or bytes before it that aren't UTF-8.
pub data NameFault (s : List ℕ) : Fault → Type 0 where
  unended : HasNoZero s → NameFault s (Invalid NameUnended)
  no_string : (fault : Fault) (name rest : List ℕ) → s ≡ name ++ 0 ∷ rest → HasNoZero name → string_at name ≡ Err fault → NameFault s fault

-- NameSays s verdict: `s` read as a name gives this verdict, a name or a fault.
abbrev pub NameSays : List ℕ → Verdict (List ℕ) → Type 0
NameSays s = Says (λ name rest. NameText name s rest) (λ n. ⊥) (NameFault s)

-- `s` is these names, one after another, to its end.
pub record NamesText (names : List (List ℕ)) (s rest : List ℕ) : Type 0 where
  pub are : Chain NameText names s []
  pub nothing_left : rest ≡ []

-- The fault of a list of names is the fault that follows some well-formed names.
pub record NamesFault (s : List ℕ) (fault : Fault) : Type 0 where
  pub good : List (List ℕ)
  pub bad : List ℕ
  pub are_good : Chain NameText good s bad
  pub some : bad ≢ []
  pub fault_is : NameFault bad fault

-- NamesSay s verdict: `s` read as names to its end gives this verdict, the names or a fault.
abbrev pub NamesSay : List ℕ → Verdict (List (List ℕ)) → Type 0
NamesSay s = Says (λ names rest. NamesText names s rest) (λ n. ⊥) (NamesFault s)

-- Reading names may allocate only if the bytes begin with a name.
abbrev pub NamesMayGrow : List ℕ → Type 0
NamesMayGrow = BeginsWith NameText

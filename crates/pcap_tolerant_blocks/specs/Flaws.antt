-- The flaws of a body, and the answer of strict reading for the same bytes.
use Rattle.std.specs.Prelude.{◌≡◌, ℕ, List, [], ◌∷◌, Option, Some, None}
use Rattle.pcap_core.specs.Answer.{Verdict, whole, faulty, Says}
use Rattle.pcap_core.specs.Faults.{Fault, Invalid, Io, Utf8}
use Rattle.pcap_core.specs.declared.rules.Rule.{Rule}
use Rattle.pcap_tolerant_blocks.specs.declared.flaws.Broken.{Broken}
use Rattle.pcap_tolerant_blocks.specs.declared.flaws.Broken.TheVariants as broken
use Rattle.pcap_tolerant_blocks.specs.declared.flaws.Flaw.{Flaw}

-- The fault for which strict reading refuses the body.
abbrev pub fault_of : Broken → Fault
fault_of (broken.Rule rule) = Invalid rule
fault_of broken.TooShort = Io
fault_of broken.NotUtf8 = Utf8

-- A fault, with the code of the option whose value has it, or no code if the fault is in a body, a list or a record of names.
pub record Said : Type 0 where
  pub code : Option ℕ
  pub fault : Fault

-- A value read leniently, with its flaws.
pub record Flawed (V : Type 0) : Type 0 where
  pub value : V
  pub flaws : List Said

-- The meaning of a flaw that the code returned.
abbrev pub said_of : Flaw → Said
said_of flaw = record { code = flaw.code; fault = fault_of flaw.broken }

-- The flaw of a body by this rule, alone.
abbrev pub alone : Rule → List Said
alone rule = record { code = None; fault = Invalid rule } ∷ []

-- `s` is this value read leniently, with these flaws, followed by `rest`; or there is no room for one, by this rule, and all is left.
abbrev pub IfRoom : {V : Type 0} → (V → List Said → List ℕ → List ℕ → Type 0) → (List ℕ → Rule → Type 0) → Option V → List Said → List ℕ → List ℕ → Type 0
IfRoom IsText NoRoom None flaws s rest = (rule : Rule) × NoRoom s rule × (flaws ≡ alone rule) × (rest ≡ s)
IfRoom IsText NoRoom (Some value) flaws s rest = IsText value flaws s rest

-- The only answer of lenient reading where the bytes should be such a value is the value, whatever its flaws.
abbrev pub IfRoomSays : {V : Type 0} → (V → List Said → List ℕ → List ℕ → Type 0) → (List ℕ → Rule → Type 0) → List ℕ → Verdict (Flawed (Option V)) → Type 0
IfRoomSays IsText NoRoom s = Says (λ x rest. IfRoom IsText NoRoom x.value x.flaws s rest) (λ n. ⊥) (λ fault. ⊥)

-- A list keeps something of `s`: it is not a bare value without a flaw.
abbrev pub KeepsSome : {V : Type 0} → (V → List Said → List ℕ → List ℕ → Type 0) → (V → Type 0) → List ℕ → Type 0
KeepsSome {V} IsText IsBare s = (value : V) (rest : List ℕ) → IsText value [] s rest → IsBare value → ⊥

-- The answer of strict reading for this value with these flaws: that value and the same rest if there are none, and otherwise its first
-- flaw.
abbrev pub StrictIs : {V : Type 0} → List Said → V → List ℕ → Verdict V → Type 0
StrictIs [] value rest v = v ≡ whole value rest
StrictIs (first ∷ others) value rest v = v ≡ faulty first.fault

-- The same for a value that may not be there. A value without a flaw is there.
abbrev pub StrictIsWhere : {V : Type 0} → List Said → Option V → List ℕ → Verdict V → Type 0
StrictIsWhere flaws (Some value) rest v = StrictIs flaws value rest v
StrictIsWhere [] None rest v = ⊥
StrictIsWhere (first ∷ others) None rest v = v ≡ faulty first.fault

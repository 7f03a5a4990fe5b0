-- Numbers as bytes, and the three verdicts of a call on a slice: a value, missing bytes or a fault.
use Rattle.std.specs.Prelude.{◌≡◌, ℕ, List, [], ◌++◌, length, Result, Ok, Err}
use Rattle.std.specs.Borrow.{Bor}
use Rattle.byteorder.specs.Endian.{big_number, little_number}
use Rattle.pcap_core.specs.declared.common.Endianness.{Endianness}
use Rattle.pcap_core.specs.declared.common.Endianness.TheVariants.{Big, Little}
use Rattle.pcap_core.specs.declared.errors.PcapError.{PcapError}
use Rattle.pcap_core.specs.declared.errors.PcapError.TheVariants.{IncompleteBuffer, OutOfMemory}
use Rattle.pcap_core.specs.Faults.{Fault, Shows}

-- An Order is a byte order: it maps a width and a list of bytes to the number that its first bytes have.
abbrev pub Order : Type 0
Order = ℕ → List ℕ → ℕ

-- number_in gives the byte order of an endianness.
abbrev pub number_in : Endianness → Order
number_in Big = big_number
number_in Little = little_number

-- Number order width n s rest: s is `width` bytes that `order` reads as n, followed by rest.
pub record Number (order : Order) (width n : ℕ) (s rest : List ℕ) : Type 0 where
  pub bytes : List ℕ
  pub text : s ≡ bytes ++ rest
  pub length_is : length bytes ≡ width
  pub value : order width bytes ≡ n

-- A verdict is what the grammar says about bytes: they begin with a value and a rest follows, n bytes are missing, or there is a fault.
pub data Verdict (V : Type 0) : Type 0 where
  whole : V → List ℕ → Verdict V
  lacks : ℕ → Verdict V
  faulty : Fault → Verdict V

-- Says states of a verdict the condition that is given for its kind: Begins, Lacks or HasFault.
abbrev pub Says : {V : Type 0} → (V → List ℕ → Type 0) → (ℕ → Type 0) → (Fault → Type 0) → Verdict V → Type 0
Says Begins Lacks HasFault (whole value rest) = Begins value rest
Says Begins Lacks HasFault (lacks n) = Lacks n
Says Begins Lacks HasFault (faulty fault) = HasFault fault

-- Refuses MayGrow Lacks HasFault error: the error reports missing bytes, running out of memory where MayGrow allows it, or a fault of the
-- bytes. It is no other error.
abbrev pub Refuses : Type 0 → (ℕ → Type 0) → (Fault → Type 0) → PcapError → Type 0
Refuses MayGrow Lacks HasFault (IncompleteBuffer n) = Lacks n
Refuses MayGrow Lacks HasFault (OutOfMemory e) = MayGrow
Refuses MayGrow Lacks HasFault error = Shows HasFault error

-- TellsWhere MayGrow IsSaid view result: the result is a verdict for which IsSaid holds. Its value is seen by `view`, and the call runs
-- out of memory only where MayGrow holds.
abbrev pub TellsWhere : {X V : Type 0} → Type 0 → (Verdict V → Type 0) → (X → V) → Result (Bor (List ℕ) × X) PcapError → Type 0
TellsWhere MayGrow IsSaid view (Ok x) = IsSaid (whole (view x.1) x.0.now)
TellsWhere MayGrow IsSaid view (Err error) = Refuses MayGrow (λ n. IsSaid (lacks n)) (λ fault. IsSaid (faulty fault)) error

-- Tells is TellsWhere for a call that allocates no memory.
abbrev pub Tells : {X V : Type 0} → (Verdict V → Type 0) → (X → V) → Result (Bor (List ℕ) × X) PcapError → Type 0
Tells = TellsWhere ⊥

-- TellsAllWhere is TellsWhere for a call whose value uses the whole slice, so that nothing follows it.
abbrev pub TellsAllWhere : {X V : Type 0} → Type 0 → (Verdict V → Type 0) → (X → V) → Result X PcapError → Type 0
TellsAllWhere MayGrow IsSaid view (Ok x) = IsSaid (whole (view x) [])
TellsAllWhere MayGrow IsSaid view (Err error) = Refuses MayGrow (λ n. IsSaid (lacks n)) (λ fault. IsSaid (faulty fault)) error

-- TellsAll is TellsAllWhere for a call that allocates no memory.
abbrev pub TellsAll : {X V : Type 0} → (Verdict V → Type 0) → (X → V) → Result X PcapError → Type 0
TellsAll = TellsAllWhere ⊥

-- Made make IsSaid verdict: the verdict is one of IsSaid, with its value mapped by `make`.
abbrev pub Made : {V W : Type 0} → (V → W) → (Verdict V → Type 0) → Verdict W → Type 0
Made {V = V} make IsSaid (whole value rest) = (made_of : V) × (value ≡ make made_of) × IsSaid (whole made_of rest)
Made make IsSaid (lacks n) = IsSaid (lacks n)
Made make IsSaid (faulty fault) = IsSaid (faulty fault)

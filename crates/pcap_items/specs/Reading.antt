-- The results of calls that take items from a stream, by the verdicts of a grammar.
use Rattle.std.specs.Prelude.{◌≡◌, ◌<◌, ◌≤◌, ◌⊎◌, ℕ, List, [], length, take, Bool, true, false, Option, None, Some, Result, Ok, Err, IfSome}
use Rattle.std.specs.Io.KnownBytes.{Consumes, Keeps, IsAtEnd}
use Rattle.pcap_core.specs.declared.errors.PcapError.{PcapError}
use Rattle.pcap_core.specs.Answer.{Verdict, whole, lacks, faulty}
use Rattle.pcap_items.specs.Early.{EarlyFault}
use Rattle.pcap_core.specs.Errors.{IsMemory, IsIo}
use Rattle.pcap_core.specs.Faults.{Fault, Shows}

-- Takes IsSaid before after v: exactly the bytes of the value v were taken.
abbrev pub Takes : {V : Type 0} → (List ℕ → Verdict V → Type 0) → Option (List ℕ) → Option (List ℕ) → V → Type 0
Takes IsSaid before after v = (t : List ℕ) × IsSaid t (whole v []) × Consumes before after t

-- IsShort IsSaid rest: bytes are missing after the rest.
pub record IsShort {V : Type 0} (IsSaid : List ℕ → Verdict V → Type 0) (rest : List ℕ) : Type 0 where
  pub n : ℕ
  pub lack : IsSaid rest (lacks n)

-- IsTorn IsSaid rest: some bytes are left, and more are missing.
abbrev pub IsTorn : {V : Type 0} → (List ℕ → Verdict V → Type 0) → List ℕ → Type 0
IsTorn IsSaid rest = (0 < length rest) × IsShort IsSaid rest

-- TakesAtMost n before after: at most n bytes were taken.
abbrev pub TakesAtMost : ℕ → Option (List ℕ) → Option (List ℕ) → Type 0
TakesAtMost n before after = (t : List ℕ) × Consumes before after t × (length t ≤ n)

-- TakesAsked: the bytes that were taken are no more than the grammar requests, since each shorter beginning of them lacks bytes.
pub record TakesAsked {V : Type 0} (IsSaid : List ℕ → Verdict V → Type 0) (before after : Option (List ℕ)) : Type 0 where
  pub taken : List ℕ
  pub from_stream : Consumes before after taken
  pub asked : (n : ℕ) → n < length taken → IsShort IsSaid (take n taken)

-- IsFaultOf IsSaid known fault: the grammar has this fault for some bytes. A known rest is not empty and has the fault, or the fault is
-- certain before the item is whole.
pub record IsFaultOf {V : Type 0} (IsSaid : List ℕ → Verdict V → Type 0) (known : Option (List ℕ)) (fault : Fault) : Type 0 where
  pub bytes : List ℕ
  pub stands : IsSaid bytes (faulty fault)
  pub some : IfSome known (λ rest. 0 < length rest)
  pub shown : IfSome known (λ rest. IsSaid rest (faulty fault) ⊎ EarlyFault IsSaid rest fault)

-- HasCause IsSaid known failed e: the cause of the error e of a call, if no call had failed before.
pub data HasCause {V : Type 0} (IsSaid : List ℕ → Verdict V → Type 0) (known : Option (List ℕ)) (failed : Bool) (e : PcapError) : Type 0 where
  -- a read failed
  read_failed : IsIo e → failed ≡ true → HasCause IsSaid known failed e
  -- memory ran out
  no_memory : IsMemory e → failed ≡ false → HasCause IsSaid known failed e
  -- the stream ended inside an item
  torn : IsIo e → failed ≡ false → IfSome known (IsTorn IsSaid) → HasCause IsSaid known failed e
  -- the bytes are refused
  refused : Shows (IsFaultOf IsSaid known) e → failed ≡ false → HasCause IsSaid known failed e

-- Pulls: the result of a call that takes an item. It is the item, or nothing exactly at the end of the stream, or an error with its
-- cause, and then no more was taken than requested.
abbrev pub Pulls : {X V : Type 0} → (List ℕ → Verdict V → Type 0) → (X → V) → Option (List ℕ) → Option (List ℕ) → Bool → Result (Option X) PcapError → Type 0
Pulls IsSaid view before after failed (Ok None) = (failed ≡ false) × IsAtEnd before × Keeps before after
Pulls IsSaid view before after failed (Ok (Some x)) = (failed ≡ false) × Takes IsSaid before after (view x)
Pulls IsSaid view before after failed (Err e) = HasCause IsSaid before failed e × TakesAsked IsSaid before after

-- NextGives: the result of one call of a reader's `next`. After its first error the reader always returns None, and takes nothing.
abbrev pub NextGives : {X V : Type 0} → (List ℕ → Verdict V → Type 0)
    → (X → V) → Option (List ℕ) → Option (List ℕ) → Bool → Bool → Bool → Bool → Option (Result X PcapError) → Type 0
NextGives IsSaid view before after true done old new None = (done ≡ true) × (new ≡ old) × Keeps before after
NextGives IsSaid view before after true done old new (Some r) = ⊥
NextGives IsSaid view before after false done old new None = (done ≡ false) × (new ≡ false) × IsAtEnd before × Keeps before after
NextGives IsSaid view before after false done old new (Some (Ok x)) = (done ≡ false) × (new ≡ false) × Takes IsSaid before after (view x)
NextGives IsSaid view before after false done old new (Some (Err e)) = (done ≡ true) × HasCause IsSaid before new e × TakesAsked IsSaid before after

-- ReadsTold: the result of a call that reads a value from a stream and reports whether the stream failed, if it had not failed before.
-- Exactly the value was taken. Otherwise no more was taken than requested, and a read failed, the stream ended early, or the bytes are
-- refused.
abbrev pub ReadsTold : {X V : Type 0} → (List ℕ → Verdict V → Type 0) → (X → V) → Option (List ℕ) → Option (List ℕ) → Bool → Result X PcapError → Type 0
ReadsTold IsSaid view before after failed (Ok x) = (failed ≡ false) × Takes IsSaid before after (view x)
ReadsTold IsSaid view before after failed (Err e) =
    TakesAsked IsSaid before after
    × ((IsIo e × (failed ≡ true)) ⊎ (IsIo e × (failed ≡ false) × IfSome before (IsShort IsSaid)) ⊎ (Shows (IsFaultOf IsSaid before) e × (failed ≡ false)))

-- ReadsWhere MayGrow: the result of a call that reads a value from a borrowed stream. Exactly the value was taken. Otherwise no more was
-- taken than requested: a read failed, the stream ended early, memory ran out where MayGrow allows it, or the bytes are refused.
abbrev pub ReadsWhere : {X V : Type 0} → Type 0 → (List ℕ → Verdict V → Type 0) → (X → V) → Option (List ℕ) → Option (List ℕ) → Result X PcapError → Type 0
ReadsWhere MayGrow IsSaid view before after (Ok x) = Takes IsSaid before after (view x)
ReadsWhere MayGrow IsSaid view before after (Err e) = TakesAsked IsSaid before after × (IsIo e ⊎ (MayGrow × IsMemory e) ⊎ Shows (IsFaultOf IsSaid before) e)

-- Reads is ReadsWhere for a call that allocates no memory.
abbrev pub Reads : {X V : Type 0} → (List ℕ → Verdict V → Type 0) → (X → V) → Option (List ℕ) → Option (List ℕ) → Result X PcapError → Type 0
Reads = ReadsWhere ⊥

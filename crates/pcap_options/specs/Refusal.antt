-- Results of calls inside the crates of options and blocks, and the errors that users get for them.
use Rattle.std.specs.Prelude.{◌≡◌, ℕ, List, [], Result, Ok, Err}
use Rattle.std.specs.Borrow.{Bor}
use Rattle.pcap_core.specs.declared.errors.PcapError.{PcapError}
use Rattle.pcap_core.specs.declared.errors.PcapError.TheVariants as errors
use Rattle.pcap_core.specs.Answer.{Verdict, whole, faulty}
use Rattle.pcap_core.specs.Faults.{Fault, Invalid, Io, Utf8, rule_message}
use Rattle.pcap_options.specs.declared.refusal.Refusal.{Refusal}
use Rattle.pcap_options.specs.declared.refusal.Refusal.TheVariants as refusals

-- A refusal names a fault of the bytes, or reports that memory ran out where the call may allocate.
abbrev pub Denies : Type 0 → (Fault → Type 0) → Refusal → Type 0
Denies MayGrow HasFault (refusals.Memory e) = MayGrow
Denies MayGrow HasFault refusals.Io = HasFault Io
Denies MayGrow HasFault (refusals.Utf8 e) = HasFault Utf8
Denies MayGrow HasFault (refusals.Invalid rule) = HasFault (Invalid rule)

-- The result of a call that may allocate only under a condition agrees with the verdict: its value as `view` gives it and the rest, or a fault.
abbrev pub FindsWhere : {X V : Type 0} → Type 0 → (Verdict V → Type 0) → (X → V) → Result (Bor (List ℕ) × X) Refusal → Type 0
FindsWhere MayGrow IsSaid view (Ok x) = IsSaid (whole (view x.1) x.0.now)
FindsWhere MayGrow IsSaid view (Err refusal) = Denies MayGrow (λ fault. IsSaid (faulty fault)) refusal

-- The result of a call that takes no memory agrees with the verdict.
abbrev pub Finds : {X V : Type 0} → (Verdict V → Type 0) → (X → V) → Result (Bor (List ℕ) × X) Refusal → Type 0
Finds = FindsWhere ⊥

-- The result of a call that reads the whole slice, and may allocate only under a condition, agrees with the verdict.
abbrev pub FindsAllWhere : {X V : Type 0} → Type 0 → (Verdict V → Type 0) → (X → V) → Result X Refusal → Type 0
FindsAllWhere MayGrow IsSaid view (Ok x) = IsSaid (whole (view x) [])
FindsAllWhere MayGrow IsSaid view (Err refusal) = Denies MayGrow (λ fault. IsSaid (faulty fault)) refusal

-- The result of a call that reads the whole slice and takes no memory agrees with the verdict.
abbrev pub FindsAll : {X V : Type 0} → (Verdict V → Type 0) → (X → V) → Result X Refusal → Type 0
FindsAll = FindsAllWhere ⊥

-- IsShownAs refusal error: users get this error for this refusal.
abbrev pub IsShownAs : Refusal → PcapError → Type 0
IsShownAs (refusals.Memory a) (errors.OutOfMemory b) = Unit {0}
IsShownAs refusals.Io (errors.IoError e) = Unit {0}
IsShownAs (refusals.Utf8 a) (errors.Utf8Error b) = a ≡ b
IsShownAs (refusals.Invalid rule) (errors.InvalidField message) = message.now ≡ rule_message rule
IsShownAs refusal error = ⊥

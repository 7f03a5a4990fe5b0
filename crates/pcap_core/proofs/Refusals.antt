-- An error that names a broken rule is a correct refusal of the bytes that break it.
use Rattle.std.proofs.Common.{ℕ, List, Result, Ok, Err}
use Rattle.std.specs.Borrow.{Bor}
use Rattle.std.specs.Prelude.{◌≡◌, ⊤}
use Rattle.std.specs.Result.{IsErrAnd}
use Rattle.pcap_core.specs.declared.errors.PcapError.{PcapError}
use Rattle.pcap_core.specs.declared.errors.PcapError.TheVariants as errors
use Rattle.pcap_core.specs.declared.rules.Rule.{Rule}
use Rattle.pcap_core.specs.Answer.{Verdict, lacks, faulty, Refuses, TellsWhere}
use Rattle.pcap_core.specs.Errors.{IsMemory}
use Rattle.pcap_core.specs.Faults.{Fault, Invalid, Io, Utf8, Own, Names, Shows}

pub named_refuses : (M : Type 0) (L : ℕ → Type 0) (F : Fault → Type 0) (rule : Rule) (e : PcapError) → F (Invalid rule) → Names rule e → Refuses M L F e
named_refuses M L F rule (errors.InvalidField text) stands named = (rule, named, stands)
named_refuses M L F rule _ stands named = absurd named

-- the same for a result that `?` returns
pub named_tells : {X V : Type 0} (M : Type 0) (IsSaid : Verdict V → Type 0) (view : X → V) (rule : Rule) (result : Result (Bor (List ℕ) × X) PcapError)
    → IsSaid (faulty (Invalid rule)) → IsErrAnd result (Names rule) → TellsWhere M IsSaid view result
named_tells M IsSaid view rule (Err e) stands named = named_refuses M (λ n. IsSaid (lacks n)) (λ fault. IsSaid (faulty fault)) rule e stands named
named_tells M IsSaid view rule (Ok x) stands named = absurd named

-- what follows from the fault that an error shows is shown by the error too
pub shows_more : {P Q : Fault → Type 0} → ((fault : Fault) → P fault → Q fault) → (e : PcapError) → Shows P e → Shows Q e
shows_more step (errors.InvalidField text) shown = (shown.0, shown.1, step (Invalid shown.0) shown.2)
shows_more step (errors.IoError e) shown = step Io shown
shows_more step (errors.Utf8Error e) shown = step Utf8 shown
shows_more step _ shown = absurd shown

pub named_shows : (Stands : Fault → Type 0) (rule : Rule) (e : PcapError) → Stands (Invalid rule) → Names rule e → Shows Stands e
named_shows Stands rule (errors.InvalidField text) stands named = (rule, named, stands)
named_shows Stands rule _ stands named = absurd named

-- if no bytes can be missing, a refusal shows a fault
pub refuses_shows : (L : ℕ → Type 0) (F : Fault → Type 0) (e : PcapError) → ((n : ℕ) → L n → ⊥) → Refuses ⊥ L F e → Shows F e
refuses_shows L F (errors.IncompleteBuffer n) none refuses = absurd (none n refuses)
refuses_shows L F _ none refuses = refuses

-- from an error that shows a fault, the fault
pub shown_fault : (Stands : Fault → Type 0) (e : PcapError) → Shows Stands e → (fault : Fault) × Stands fault
shown_fault Stands (errors.InvalidField text) shown = (Invalid shown.0, shown.2)
shown_fault Stands (errors.IoError e) shown = (Io, shown)
shown_fault Stands (errors.Utf8Error e) shown = (Utf8, shown)
shown_fault Stands _ shown = absurd shown

-- no error shows a fault of another format
pub own_unshown : (n : ℕ) (e : PcapError) → Shows (λ fault. fault ≡ Own n) e → ⊥
own_unshown n (errors.InvalidField text) shown = let own = shown.2 in absurd cc
own_unshown n (errors.IoError e) shown = absurd cc
own_unshown n (errors.Utf8Error e) shown = absurd cc
own_unshown n _ shown = absurd shown

pub refuses_memory : (L : ℕ → Type 0) (F : Fault → Type 0) (e : PcapError) → IsMemory e → Refuses ⊤ L F e
refuses_memory L F (errors.OutOfMemory memory) x = tt
refuses_memory L F _ x = absurd x

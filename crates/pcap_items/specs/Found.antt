-- The result of a parser at the front of a slice: an item, missing bytes, or a fault.
use Rattle.std.specs.Prelude.{ℕ, List, Result, Ok, Err}
use Rattle.std.specs.Borrow.{Bor}
use Rattle.std.specs.declared.alloc.AllocError.{AllocError}
use Rattle.pcap_core.specs.declared.errors.PcapError.{PcapError}
use Rattle.pcap_core.specs.declared.errors.PcapError.TheVariants.{IncompleteBuffer, OutOfMemory}
use Rattle.pcap_items.specs.declared.run.found.Found.{Found}
use Rattle.pcap_items.specs.declared.run.found.Found.TheVariants.{Item, Needs, Refused}
use Rattle.pcap_core.specs.Answer.{Verdict, whole, lacks, faulty}
use Rattle.pcap_core.specs.Faults.{Shows}

-- found_of gives what a parser's answer says about the bytes. Out of memory says nothing about them.
abbrev pub found_of : {X : Type 0} → Result X PcapError → Result (Found X PcapError) AllocError
found_of (Ok x) = Ok (Item x)
found_of (Err (IncompleteBuffer n)) = Ok (Needs n)
found_of (Err (OutOfMemory e)) = Err e
found_of (Err error) = Ok (Refused error)

-- FoundSays IsSaid view found: what was found is a verdict of IsSaid: an item, seen by `view`, with what follows it, or n missing bytes,
-- or a fault.
abbrev pub FoundSays : {X V : Type 0} → (Verdict V → Type 0) → (X → V) → Found (Bor (List ℕ) × X) PcapError → Type 0
FoundSays IsSaid view (Item x) = IsSaid (whole (view x.1) x.0.now)
FoundSays IsSaid view (Needs n) = IsSaid (lacks n)
FoundSays IsSaid view (Refused error) = Shows (λ fault. IsSaid (faulty fault)) error

-- FindsWhere MayGrow is FoundSays for a call that can also run out of memory, but only where MayGrow holds.
abbrev pub FindsWhere : {X V : Type 0} → Type 0 → (Verdict V → Type 0) → (X → V) → Result (Found (Bor (List ℕ) × X) PcapError) AllocError → Type 0
FindsWhere MayGrow IsSaid view (Ok found) = FoundSays IsSaid view found
FindsWhere MayGrow IsSaid view (Err error) = MayGrow

-- FoundBefore is FoundSays for bytes that are shown on request: `after` are the bytes that follow the item, shown or not.
abbrev pub FoundBefore : {X V : Type 0} → (Verdict V → Type 0) → (X → V) → List ℕ → Found X PcapError → Type 0
FoundBefore IsSaid view after (Item x) = IsSaid (whole (view x) after)
FoundBefore IsSaid view after (Needs n) = IsSaid (lacks n)
FoundBefore IsSaid view after (Refused error) = Shows (λ fault. IsSaid (faulty fault)) error

-- IfItem P found: if an item was found, P holds of it.
abbrev pub IfItem : {X E : Type 0} → (X → Type 0) → Found X E → Type 0
IfItem P (Item x) = P x
IfItem P (Needs n) = Unit {0}
IfItem P (Refused error) = Unit {0}

-- The bytes that a reader lends: those of the item that it took.
use Rattle.std.specs.Prelude.{⊤, ◌≡◌, ℕ, List, [], Option, None, Some, Result, Ok, Err}
use Rattle.std.specs.Io.KnownBytes.{Consumes}
use Rattle.pcap_core.specs.declared.errors.PcapError.{PcapError}
use Rattle.pcap_core.specs.Answer.{Verdict, whole}

-- TakesText: these bytes are the value v and no more, and exactly they were taken.
abbrev pub TakesText : {V : Type 0} → (List ℕ → Verdict V → Type 0) → Option (List ℕ) → Option (List ℕ) → List ℕ → V → Type 0
TakesText IsSaid before after text v = IsSaid text (whole v []) × Consumes before after text

-- HoldsText: if an item was taken, these bytes are that item. If there was none, there are no bytes.
abbrev pub HoldsText : {X V : Type 0} → (List ℕ → Verdict V → Type 0)
    → (X → V) → Option (List ℕ) → Option (List ℕ) → List ℕ → Result (Option X) PcapError → Type 0
HoldsText IsSaid view before after text (Ok (Some x)) = TakesText IsSaid before after text (view x)
HoldsText IsSaid view before after text (Ok None) = text ≡ []
HoldsText IsSaid view before after text (Err e) = ⊤

-- LendsText: if a call returned an item, these bytes are that item. If it returned none, no bytes are lent.
abbrev pub LendsText : {X V : Type 0} → (List ℕ → Verdict V → Type 0)
    → (X → V) → Option (List ℕ) → Option (List ℕ) → List ℕ → Option (Result X PcapError) → Type 0
LendsText IsSaid view before after text (Some (Ok x)) = TakesText IsSaid before after text (view x)
LendsText IsSaid view before after text (Some (Err e)) = text ≡ []
LendsText IsSaid view before after text None = text ≡ []

-- Faults of a part are faults of the whole.
use Rattle.pcap_core.specs.Faults.{Fault, Invalid, Io, Utf8}
use Rattle.pcap_options.specs.declared.refusal.Refusal.{Refusal}
use Rattle.pcap_options.specs.declared.refusal.Refusal.TheVariants as refusals
use Rattle.pcap_options.specs.Refusal.{Denies}

-- A refusal of the part is one of the whole, if the whole may grow when the part does and has the part's faults.
pub denies_more : {M N : Type 0} {P Q : Fault → Type 0} (e : Refusal) → (M → N) → ((f : Fault) → P f → Q f) → Denies M P e → Denies N Q e
denies_more (refusals.Memory a) grows more h = grows h
denies_more refusals.Io grows more h = more Io h
denies_more (refusals.Utf8 a) grows more h = more Utf8 h
denies_more (refusals.Invalid rule) grows more h = more (Invalid rule) h

-- A refusal of a part that takes no memory is one of the whole.
pub denies_faults : (N : Type 0) {P Q : Fault → Type 0} (e : Refusal) → ((f : Fault) → P f → Q f) → Denies ⊥ P e → Denies N Q e
denies_faults N e more h = denies_more e (λ (never : ⊥). absurd never) more h

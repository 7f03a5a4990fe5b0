-- The answers of strict reading for bytes that are also read leniently.
use Rattle.std.specs.Prelude.{◌≡◌, ◌⊎◌, ℕ, List, [], ◌∷◌}
use Rattle.pcap_classic.specs.declared.common.TsResolution.{TsResolution}
use Rattle.pcap_core.specs.declared.rules.Rule.{Rule}
use Rattle.pcap_core.specs.declared.rules.Rule.TheVariants.{FractionTooLarge, IncludedTooLong}
use Rattle.pcap_core.specs.Answer.{Order, Verdict, whole, lacks, faulty}
use Rattle.pcap_core.specs.Faults.{Invalid}
use Rattle.pcap_classic.specs.PacketText.{Head, RecordHeadText, Captured}
use Rattle.pcap_tolerant.specs.AsIs.{AsIs, flaws_of, rules_of, strict_of}

-- The first condition if no rule is broken, and otherwise the second condition of the first broken rule.
abbrev pub MatchFirst : List Rule → Type 0 → (Rule → Type 0) → Type 0
MatchFirst [] None First = None
MatchFirst (rule ∷ rules) None First = First rule

-- `s` begins with a head that breaks a rule, and the first such rule satisfies the condition.
pub record BreaksFirst (order : Order) (r : TsResolution) (s : List ℕ) (First : Rule → Type 0) : Type 0 where
  pub head : Head
  pub after : List ℕ
  pub text : RecordHeadText order head s after
  pub first : MatchFirst (rules_of (flaws_of r head)) ⊥ First

-- The answer of strict reading by that of lenient reading. For a packet: the same packet if it breaks no rule, else its first rule. For a
-- request: the same request, or the first rule that the head breaks. For a length above the limit: V2 or V3.
abbrev pub StrictIs : Order → TsResolution → List ℕ → Verdict AsIs → Verdict Captured → Type 0
StrictIs order r s (whole p rest) v = MatchFirst (rules_of p.flaws) (v ≡ whole (strict_of r p) rest) (λ rule. v ≡ faulty (Invalid rule))
StrictIs order r s (lacks n) v = (v ≡ lacks n) ⊎ BreaksFirst order r s (λ rule. v ≡ faulty (Invalid rule))
StrictIs order r s (faulty f) v = (v ≡ faulty (Invalid FractionTooLarge)) ⊎ (v ≡ faulty (Invalid IncludedTooLong))

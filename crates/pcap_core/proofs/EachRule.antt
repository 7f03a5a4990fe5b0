-- No two rules share a number or a message, and each rule is in the list of all rules.
use Rattle.std.proofs.Common.{◌≡◌, ◌<◌, ℕ, List, [], ◌∷◌, get_or, refl, sym, ap, ◌∙◌, arith}
use Rattle.std.specs.Prelude.{◌+◌, ◌==◌, if◌then◌else◌, Bool}
use Rattle.std.specs.Str.{bytes_eq}
use Rattle.pcap_core.specs.declared.rules.Rule.{Rule}
use Rattle.pcap_core.specs.declared.rules.Rule.TheVariants as rules
use Rattle.pcap_core.specs.Faults.{rule_message}
use Rattle.pcap_core.specs.Rules.{number_of}

-- all rules, ordered by number
abbrev pub every : List Rule
every = rules.CaptureMagic ∷ rules.FractionTooLarge ∷ rules.IncludedTooLong ∷ rules.OriginalTooLong ∷ rules.IncludedPastOriginal ∷ rules.SectionMagic ∷ rules.BlockUnaligned ∷ rules.BlockTooShort ∷ rules.BlockLengthsDiffer ∷ rules.SectionMissing ∷ rules.SectionTooShort ∷ rules.InterfaceTooShort ∷ rules.EnhancedTooShort ∷ rules.EnhancedCut ∷ rules.SimpleTooShort ∷ rules.StatisticsTooShort ∷ rules.OptionTooShort ∷ rules.OptionCut ∷ rules.InterfaceIpv4Length ∷ rules.InterfaceIpv6Length ∷ rules.InterfaceMacLength ∷ rules.InterfaceEuiLength ∷ rules.InterfaceSpeedLength ∷ rules.InterfaceResolutionLength ∷ rules.InterfaceZoneLength ∷ rules.InterfaceFilterEmpty ∷ rules.InterfaceFcsLength ∷ rules.InterfaceOffsetLength ∷ rules.EnhancedFlagsLength ∷ rules.EnhancedDropCountLength ∷ rules.PacketFlagsLength ∷ rules.NameIpv4Length ∷ rules.NameIpv6Length ∷ rules.RecordCut ∷ rules.EndNotEmpty ∷ rules.Ipv4RecordTooShort ∷ rules.Ipv6RecordTooShort ∷ rules.NameUnended ∷ rules.RecordUnpadded ∷ rules.UnknownTooLong ∷ []

-- the index of the first rule in a list that passes a test
abbrev place_by : (Rule → Bool) → List Rule → ℕ
place_by passes [] = 0
place_by passes (rule ∷ more) = if passes rule then 0 else place_by passes more + 1

-- the index of a rule in the list of all rules
abbrev pub place_of : Rule → ℕ
place_of rule = place_by (λ other. number_of other == number_of rule) every

pub at_its_place : (rule : Rule) → get_or every (place_of rule) rules.CaptureMagic ≡ rule
at_its_place rules.CaptureMagic = refl
at_its_place _ = refl

pub has_place : (rule : Rule) → place_of rule < 40
has_place rules.CaptureMagic = omega arith
has_place _ = omega arith

-- the rule with this message
named : List ℕ → Rule
named s = get_or every (place_by (λ rule. bytes_eq (rule_message rule) s) every) rules.CaptureMagic

named_by : (rule : Rule) → named (rule_message rule) ≡ rule
unfolding named
named_by rules.CaptureMagic = refl
named_by _ = refl

-- the rule with this number
numbered : ℕ → Rule
numbered n = get_or every (place_by (λ rule. number_of rule == n) every) rules.CaptureMagic

numbered_by : (rule : Rule) → numbered (number_of rule) ≡ rule
unfolding numbered
numbered_by rules.CaptureMagic = refl
numbered_by _ = refl

pub one_number : {a b : Rule} → number_of a ≡ number_of b → a ≡ b
one_number {a} {b} e = sym (numbered_by a) ∙ ap numbered e ∙ numbered_by b

pub one_message : {a b : Rule} → rule_message a ≡ rule_message b → a ≡ b
one_message {a} {b} e = sym (named_by a) ∙ ap named e ∙ named_by b

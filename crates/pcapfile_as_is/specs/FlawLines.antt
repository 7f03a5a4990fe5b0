-- This file defines the lines for the rules that packets break.
use Rattle.std.specs.Prelude.{ℕ, List, [], ◌++◌, codes, if◌then◌else◌}
use Rattle.std.specs.Fmt.{decimal}
use Rattle.pcap_core.specs.declared.rules.Rule.{Rule}
use Rattle.pcap_core.specs.declared.rules.Rule.TheVariants.{FractionTooLarge, IncludedTooLong, OriginalTooLong, IncludedPastOriginal}
use Rattle.pcap_core.specs.Faults.{rule_message}
use Rattle.pcap_core.specs.Rules.{number_of}
use Rattle.pcap_tolerant.specs.declared.as_is.Flaws.{Flaws}

-- The text that says where a packet is: its number and the number of bytes before it.
abbrev pub place_text : List ℕ → ℕ → ℕ → List ℕ
place_text prefix number place = prefix ++ (codes "packet " ++ (decimal number ++ (codes " at byte " ++ decimal place)))

-- The line of a rule with this number and message that is broken at a place.
abbrev pub rule_text : List ℕ → ℕ → List ℕ → List ℕ
rule_text place number message = place ++ (codes " breaks rule " ++ (decimal number ++ (codes ": " ++ (message ++ codes "\n"))))

-- The line of a rule that the packet with this number breaks.
abbrev pub flaw_text : List ℕ → ℕ → ℕ → Rule → List ℕ
flaw_text prefix number place rule = rule_text (place_text prefix number place) (number_of rule) (rule_message rule)

-- The lines of the broken rules, in the order of the rules.
abbrev pub flaws_text : List ℕ → ℕ → ℕ → Flaws → List ℕ
flaws_text prefix number place f =
    (if f.fraction_too_large then flaw_text prefix number place FractionTooLarge else [])
    ++ ((if f.included_too_long then flaw_text prefix number place IncludedTooLong else [])
    ++ ((if f.original_too_long then flaw_text prefix number place OriginalTooLong else [])
    ++ (if f.included_past_original then flaw_text prefix number place IncludedPastOriginal else [])))

use Rattle.std.proofs.Common.{◌≢◌, ◌<◌, ℕ, get_or}
use Rattle.pcap_core.specs.declared.rules.Rule.TheVariants.{CaptureMagic}
use Rattle.pcap_core.specs.Faults.{rule_message}
use Rattle.pcap_core.proofs.rules.Rule.from_message.Given as goal

-- none of the rules before this one has the message
abbrev pub invariant-loop-rule : goal.invariant-loop-rule
invariant-loop-rule l = (k : ℕ) → k < l.rule-index → rule_message (get_or l.rule-items k CaptureMagic) ≢ l.message

use Rattle.std.proofs.Common.{◌≡◌, ◌∙◌, ℕ, List, subst}
use Rattle.std.specs.Prelude.{IfOk, string_bytes}
use Rattle.pcap_core.specs.Faults.{rule_message}
use Rattle.pcap_core.specs.Rules.{number_of}
use Rattle.pcapfile_as_is.specs.FlawLines.{rule_text}
use Rattle.pcapfile_as_is.proofs.flaws.flaw_line.Goals as goal

pub returns : goal.returns
returns c =
    let rule = c.args.rule in
    subst (λ (l : List ℕ). IfOk c.rule_flaw.result (λ line. string_bytes line ≡ rule_text l (number_of rule) (rule_message rule))) (c.as_str.ensures.value ∙ c.in_ok-place.ensures) c.rule_flaw.ensures

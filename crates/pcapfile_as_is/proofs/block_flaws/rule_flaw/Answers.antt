use Rattle.std.proofs.Common.{◌≡◌, ℕ, List, subst}
use Rattle.std.specs.Prelude.{IfOk, string_bytes}
use Rattle.pcap_core.specs.Faults.{rule_message}
use Rattle.pcapfile_as_is.specs.BlockLines.{broken_rule}
use Rattle.pcapfile_as_is.proofs.block_flaws.rule_flaw.Goals as goal

pub returns : goal.returns
returns c =
    let result = c.rule_line.result in
    let place = c.args.place.now in
    let option = c.args.option.now in
    let named = subst (λ (m : List ℕ). IfOk result (λ line. string_bytes line ≡ broken_rule place c.number.result option m)) c.text.ensures c.rule_line.ensures in
    subst (λ (n : ℕ). IfOk result (λ line. string_bytes line ≡ broken_rule place n option (rule_message c.args.rule))) c.number.ensures named

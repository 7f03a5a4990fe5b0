use Rattle.std.proofs.Common.{◌≡◌, ◌∙◌, ℕ, List, subst}
use Rattle.std.specs.Prelude.{IfOk, string_bytes}
use Rattle.pcap_tolerant_blocks.specs.Flaws.{fault_of}
use Rattle.pcapfile_as_is.specs.BlockLines.{fault_line}
use Rattle.pcapfile_as_is.proofs.block_flaws.line_of.Goals as goal

pub returns : goal.returns
returns c =
    let result = c.broken_line.result in
    subst (λ (l : List ℕ). IfOk result (λ line. string_bytes line ≡ fault_line c.args.place.now l (fault_of c.args.flaw.broken))) (c.as_str.ensures.value ∙ c.in_ok-within.ensures) c.broken_line.ensures

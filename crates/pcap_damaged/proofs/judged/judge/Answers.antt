use Rattle.std.proofs.Common.{inl, inr}
use Rattle.pcap_classic.specs.Parser.{header_of}
use Rattle.pcap_damaged.proofs.Judging.{judged_so}
use Rattle.pcap_damaged.proofs.judged.judge.Goals.{in_default-missing-via-in-Some-missing+else-not-is_all, in_default-missing-via-in_default-missing}
use Rattle.pcap_damaged.proofs.judged.judge.Goals as goal

pub returns-in_default-missing : goal.returns-in_default-missing
returns-in_default-missing c =
    let so = judged_so (header_of c.args.parser.now) c.args.time c.args.is_all c.args.slice.now c.judge_all.result c.in_default.ensures in
    elim c.in_default-missing.branch [
      | in_default-missing-via-in-Some-missing+else-not-is_all w ↦ so (inl cc) c.judge_all.ensures
      | in_default-missing-via-in_default-missing w ↦ so (inr w.in_default-missing.ensures) c.judge_all.ensures
    ]

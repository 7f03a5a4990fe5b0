use Rattle.pcap_core.specs.Answer.{faulty, lacks}
use Rattle.pcap_ng.specs.Opening.{OpeningSays}
use Rattle.pcapfile_c.specs.Cuts.{CutMayGrow}
use Rattle.pcapfile_c.proofs.Refused.{refuses_only}
use Rattle.pcapfile_c.proofs.block_cuts.cut_capture.Goals as goal

pub returns-in-Equal-clause-refused : goal.returns-in-Equal-clause-refused
returns-in-Equal-clause-refused c =
    let says = OpeningSays c.args.bytes.now in
    refuses_only (CutMayGrow c.args.bytes.now) (λ n. says (lacks n)) (λ fault. says (faulty fault)) c.cut_pcapng.result c.cut_pcapng.ensures.memory c.cut_pcapng.ensures.refused

pub returns-in-AtLeast-clause-refused : goal.returns-in-AtLeast-clause-refused
returns-in-AtLeast-clause-refused c =
    let says = OpeningSays c.args.bytes.now in
    refuses_only (CutMayGrow c.args.bytes.now) (λ n. says (lacks n)) (λ fault. says (faulty fault)) c.cut_pcapng_at_least.result c.cut_pcapng_at_least.ensures.memory c.cut_pcapng_at_least.ensures.refused

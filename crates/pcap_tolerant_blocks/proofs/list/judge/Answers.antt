use Rattle.std.proofs.Common.{◌∙◌}
use Rattle.pcap_options.specs.Values.{shape_at, value_of}
use Rattle.pcap_tolerant_blocks.proofs.Lists.{only_bytes}
use Rattle.pcap_tolerant_blocks.proofs.list.judge.Goals as goal

pub returns-in-Err-clause-judged : goal.returns-in-Err-clause-judged
returns-in-Err-clause-judged g c =
    let read = value_of g.B.ByteOrder.number_of (shape_at g.O.PcapNgOption.kind c.args.code) c.args.value.now in
    rw (c.broken_by.ensures read c.in-Err.ensures.tells) (only_bytes _ _ _ _ _ (c.unread.ensures.same ∙ c.new.ensures.option) c.requires)

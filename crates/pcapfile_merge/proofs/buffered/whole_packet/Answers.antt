use Rattle.std.proofs.Common.{arith}
use Rattle.pcapfile_merge.proofs.Lying.{lies_whole}
use Rattle.pcapfile_merge.proofs.buffered.whole_packet.Goals as goal

pub returns : goal.returns
returns c =
    let cut = c.split_at in
    lies_whole c.args.header.now c.in-Ok.found c.in-Ok.len c.head-head.result c.args.shown.now cut.result.0.now cut.result.1.now cut.ensures.by_index.0 cut.ensures.front_len c.head-head.ensures c.in-Ok.ensures.0 (omega (arith, c.if-after-len.false))

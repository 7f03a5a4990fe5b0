use Rattle.std.proofs.Common.{arith}
use Rattle.pcap_ng.proofs.Stretched.{torn_shown}
use Rattle.pcap_ng.proofs.pcapng.stretch.put_shown.Goals as goal

pub returns-in-Err-clause-sends : goal.returns-in-Err-clause-sends
returns-in-Err-clause-sends g c =
    let tore = c.in-Err.ensures.out in
    let row = c.whole_blocks-blocks.ensures.passes in
    let sent = torn_shown c.args.order c.args.shown.now _ _ _ c.in-Err.field-0.gone _ _ _ row c.torn_block-blocks.ensures tore.1 tore.2 in
    (sent.0, omega (arith, sent.1, c.whole_blocks-blocks.ensures.within), tore.0, c.in-Err.ensures.told)

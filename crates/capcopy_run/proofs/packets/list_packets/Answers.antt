use Rattle.capcopy_run.specs.PacketLines.{of_header}
use Rattle.capcopy_run.proofs.PacketLists.{packets_known}
use Rattle.capcopy_run.proofs.packets.list_packets.Goals as goal

pub returns-clause-lists : goal.returns-clause-lists
returns-clause-lists g c =
    packets_known g.L.PacketLine.grows (of_header (g.L.PacketLine.line (g.L.PacketLine.setting c.args.lines))) c.in_ok-header.header c.endianness.result c.ts_resolution.result (g.R.Read.remaining c.args.input.now) _ _ _ c.endianness.ensures c.ts_resolution.ensures c.in_ok-header.ensures c.args.most _ c.list_items.result c.list_items.ensures.lists

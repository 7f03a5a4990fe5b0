use Rattle.std.proofs.Common.{◌≡◌, ◌≤◌, ◌-◌}
use Rattle.pcap_classic.specs.PacketText.{packet_limit}
use Rattle.pcap_classic.specs.Packets.{packet_format}
use Rattle.capcopy_run.specs.PacketLines.{of_header}
use Rattle.capcopy_run.proofs.Turns.{Walked}
use Rattle.capcopy_run.proofs.packets.list_shown.Given as goal

abbrev pub invariant-loop-listed : goal.invariant-loop-listed
invariant-loop-listed g l = record {
  same : g.L.PacketLine.setting l.lines ≡ g.L.PacketLine.setting l.fn.lines;
  walked : Walked (of_header (g.L.PacketLine.line (g.L.PacketLine.setting l.fn.lines))) (packet_format packet_limit g.B.ByteOrder.number_of l.ts_resolution) tt tt l.shown l.rest (g.W.Write.contents l.fn.output) (g.W.Write.contents l.output) l.fn.listed l.listed;
  more : l.fn.listed ≤ l.listed;
  within : l.listed ≤ l.most;
}

abbrev pub decreases-loop-listed : goal.decreases-loop-listed
decreases-loop-listed g l = l.most - l.listed

use Rattle.std.proofs.Common.{◌≡◌, ◌-◌, ◌^◌}
use Rattle.pcapfile_cut.specs.Openings.{header_of}
use Rattle.pcapfile_selected.specs.PacketTimes.{input_of, opening_of}
use Rattle.pcapfile_selected.specs.SpanPackets.{CutsAll, packet_run}
use Rattle.pcapfile_selected.proofs.source.PacketSource.cut_all_taken.Given as goal

abbrev pub invariant-loop-packets : goal.invariant-loop-packets
invariant-loop-packets g l = record {
  cuts : CutsAll (header_of (opening_of l.fn.self))
      (packet_run l.fn.spans (input_of g.R.Read.remaining l.fn.self) (g.W.Write.contents l.fn.output) l.fn.outcome) l.packets
      (packet_run l.spans (input_of g.R.Read.remaining l.self) (g.W.Write.contents l.output) l.outcome);
  opening : opening_of l.self ≡ opening_of l.fn.self;
}

abbrev pub decreases-loop-packets : goal.decreases-loop-packets
decreases-loop-packets g l = 2 ^ 64 - l.packets

use Rattle.std.proofs.Common.{◌≡◌, ◌-◌, ◌^◌, List, [], false}
use Rattle.pcap_items.specs.Held.{held_bytes}
use Rattle.pcapfile_cut.specs.Choice.{Stored, dedup_of}
use Rattle.pcapfile_cut.specs.Cuts.{Passes}
use Rattle.pcapfile_cut.specs.Duplicates.{most_remembered, remembered}
use Rattle.pcapfile_cut.proofs.Chosen.{recent_of}
use Rattle.pcapfile_cut.proofs.cutting.cut_packets.Given as goal

abbrev pub invariant-loop-cut : goal.invariant-loop-cut
invariant-loop-cut g l = record {
  packets : List Stored;
  passes : Passes l.header l.wanted packets (g.R.Read.remaining l.fn.input) (g.R.Read.remaining l.input) (g.W.Write.contents l.fn.output) (g.W.Write.contents l.output) l.outcome;
  between : held_bytes l.held ≡ [];
  recent : remembered l.recent ≡ recent_of l.wanted packets;
  most : most_remembered l.recent ≡ dedup_of l.wanted;
  read : l.outcome.read_failed ≡ false;
  wrote : l.outcome.write_failed ≡ false;
}

abbrev pub decreases-loop-cut : goal.decreases-loop-cut
decreases-loop-cut g l = 2 ^ 64 - l.outcome.packets

use Rattle.std.proofs.Common.{◌-◌, ◌≡◌, ◌≤◌, false}
use Rattle.std.specs.Prelude.{IsTrue}
use Rattle.pcap_classic.specs.Magic.{is_magic}
use Rattle.pcap_file.specs.Placing.{PlacesAll, sink_of, source_of}
use Rattle.pcap_file.proofs.run.placing.convert_blocks.Given as goal

abbrev pub invariant-loop-converted : goal.invariant-loop-converted
invariant-loop-converted g l = record {
  so_far : PlacesAll l.fn.writer.header l.unplaced (source_of g.R.Read.remaining l.fn.reader) (source_of g.R.Read.remaining l.reader) (sink_of g.W.Write.contents l.fn.writer) (sink_of g.W.Write.contents l.writer) l.converted;
  header : l.writer.header ≡ l.fn.writer.header;
  valid : IsTrue (is_magic l.writer.header.magic_number);
  good : (sink_of g.W.Write.contents l.writer).failed ≡ false;
  within : l.converted.blocks ≤ l.most;
  packets : l.converted.packets ≤ l.converted.blocks;
  left_out : l.converted.left_out ≤ l.converted.blocks;
}

abbrev pub decreases-loop-converted : goal.decreases-loop-converted
decreases-loop-converted g l = l.most - l.converted.blocks

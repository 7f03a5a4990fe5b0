use Rattle.std.proofs.Common.{◌-◌, ◌≡◌, ◌≤◌, [], false}
use Rattle.pcap_items.specs.Copying.{CopiesTo}
use Rattle.pcap_items.specs.Held.{held_bytes}
use Rattle.pcap_items.proofs.stream.copying.copy_items.Given as goal

abbrev pub invariant-loop-tally : goal.invariant-loop-tally
invariant-loop-tally g l = record {
  so_far : CopiesTo (g.A.Ahead.format l.ahead) (g.A.Ahead.written l.ahead) (g.A.Ahead.state l.fn.place) (g.A.Ahead.state l.place) (g.R.Read.remaining l.fn.reader) (g.R.Read.remaining l.reader) (g.W.Write.contents l.fn.writer) (g.W.Write.contents l.writer) 0 l.tally.items;
  between : held_bytes l.held ≡ [];
  within : l.tally.items ≤ l.most;
  read : l.tally.read_failed ≡ false;
  wrote : l.tally.write_failed ≡ false;
}

abbrev pub decreases-loop-tally : goal.decreases-loop-tally
decreases-loop-tally g l = l.most - l.tally.items

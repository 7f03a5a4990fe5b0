use Rattle.std.proofs.Common.{◌≡◌, map, length, Ok}
use Rattle.std.specs.Iterator.{Yields}
use Rattle.pcap_items.proofs.run.reads.read_items.Given as goal

abbrev pub invariant-loop-turn : goal.invariant-loop-turn
invariant-loop-turn g l = record {
  gave : Yields g.R.Iterator.next_gives l.fn.reader (map (λ x. Ok x) l.items.items) l.reader;
  count : length l.items.items ≡ l.turn;
  can : g.R.Iterator.can_next l.reader;
}

use Rattle.std.proofs.Common.{◌≡◌, ◌≤◌, ◌-◌, length, take}
use Rattle.std.specs.Io.KnownBytes.{Consumes}
use Rattle.pcap_items.proofs.stream.reading.fill_array.Given as goal

abbrev pub invariant-loop-at : goal.invariant-loop-at
invariant-loop-at g l = record {
  within : l.at ≤ length l.array;
  came : Consumes (g.T.Read.remaining l.fn.stream) (g.T.Read.remaining l.stream) (take l.at l.array);
  same : l.has_failed ≡ l.fn.has_failed;
}

abbrev pub decreases-loop-at : goal.decreases-loop-at
decreases-loop-at g l = length l.array - l.at

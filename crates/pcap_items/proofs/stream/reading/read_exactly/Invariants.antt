use Rattle.std.proofs.Common.{◌≡◌, ◌≤◌, ◌-◌, ◌+◌, length}
use Rattle.std.specs.Prelude.{max}
use Rattle.pcap_items.specs.Held.{held_bytes, room_of}
use Rattle.pcap_items.specs.Streams.{Adds}
use Rattle.pcap_items.proofs.stream.reading.read_exactly.Given as goal

abbrev pub invariant-loop-missing : goal.invariant-loop-missing
invariant-loop-missing g l = record {
  within : l.missing ≤ l.n;
  adds : Adds (held_bytes l.fn.held) (held_bytes l.held) (g.T.Read.remaining l.fn.stream) (g.T.Read.remaining l.stream) (l.n - l.missing);
  same : l.has_failed ≡ l.fn.has_failed;
  room : room_of l.held ≤ max (room_of l.fn.held) (length (held_bytes l.fn.held) + l.n);
  ahead : room_of l.held ≤ max (room_of l.fn.held) (length (held_bytes l.held) + 65536);
}

abbrev pub decreases-loop-missing : goal.decreases-loop-missing
decreases-loop-missing g l = l.missing

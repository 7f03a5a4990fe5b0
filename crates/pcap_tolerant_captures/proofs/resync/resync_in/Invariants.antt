use Rattle.std.proofs.Common.{length, ◌-◌, ℕ, ◌<◌, ◌≤◌, drop}
use Rattle.pcap_tolerant_captures.specs.Resync.{BlocksStand}
use Rattle.pcap_tolerant_captures.proofs.resync.resync_in.Given as goal

abbrev pub invariant-loop-at : goal.invariant-loop-at
invariant-loop-at l = record {
  inside : l.at ≤ length l.slice;
  none : (m : ℕ) → m < l.at → BlocksStand l.order l.k (drop m l.slice) → ⊥;
}

abbrev pub decreases-loop-at : goal.decreases-loop-at
decreases-loop-at l = length l.slice - l.at

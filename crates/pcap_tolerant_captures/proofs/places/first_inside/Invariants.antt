use Rattle.std.proofs.Common.{◌-◌, ◌<◌, ◌≤◌, ℕ, length, drop}
use Rattle.pcap_tolerant_captures.specs.Places.{GoesOnKnown}
use Rattle.pcap_tolerant_captures.proofs.places.first_inside.Given as goal

abbrev pub invariant-loop-place : goal.invariant-loop-place
invariant-loop-place l = record {
  behind : l.first < l.place;
  inside : l.place ≤ length l.bytes;
  none : (place : ℕ) → l.first < place → place < l.place → place < l.end → GoesOnKnown l.order (drop place l.bytes) → ⊥;
}

abbrev pub decreases-loop-place : goal.decreases-loop-place
decreases-loop-place l = l.end - l.place

use Rattle.std.proofs.Common.{length, ◌-◌, ℕ, ◌<◌, ◌≤◌, drop}
use Rattle.pcap_core.specs.declared.common.Endianness.TheVariants as orders
use Rattle.pcap_tolerant_captures.specs.Resync.{HeaderStands}
use Rattle.pcap_tolerant_captures.proofs.resync.resync_section.Given as goal

abbrev pub invariant-loop-place : goal.invariant-loop-place
invariant-loop-place l = record {
  inside : l.place ≤ length l.slice;
  none : (m : ℕ) → m < l.place → HeaderStands orders.Big (drop m l.slice) → ⊥;
}

abbrev pub decreases-loop-place : goal.decreases-loop-place
decreases-loop-place l = length l.slice - l.place

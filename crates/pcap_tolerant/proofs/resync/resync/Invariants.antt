use Rattle.std.proofs.Common.{length, ◌-◌, ℕ, ◌<◌, ◌≤◌, drop}
use Rattle.pcap_classic.specs.Parser.{header_of}
use Rattle.pcap_tolerant.specs.Resync.{PacketRow}
use Rattle.pcap_tolerant.proofs.resync.resync.Given as goal

abbrev pub invariant-loop-at : goal.invariant-loop-at
invariant-loop-at l = record {
  inside : l.at ≤ length l.slice;
  none : (m : ℕ) → m < l.at → PacketRow (header_of l.parser) l.k (drop m l.slice) → ⊥;
}

abbrev pub decreases-loop-at : goal.decreases-loop-at
decreases-loop-at l = length l.slice - l.at

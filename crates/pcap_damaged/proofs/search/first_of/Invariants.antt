use Rattle.std.proofs.Common.{◌-◌, ℕ, ◌<◌, ◌≤◌, drop}
use Rattle.pcap_classic.specs.Parser.{header_of}
use Rattle.pcap_damaged.specs.Plausible.{GoesOn}
use Rattle.pcap_damaged.proofs.search.first_of.Given as goal

abbrev pub invariant-loop-at : goal.invariant-loop-at
invariant-loop-at l = record {
  inside : l.at ≤ l.most;
  none : (m : ℕ) → m < l.at → GoesOn (header_of l.parser) l.time (drop m l.slice) → ⊥;
}

abbrev pub decreases-loop-at : goal.decreases-loop-at
decreases-loop-at l = l.most - l.at

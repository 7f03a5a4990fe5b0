use Rattle.std.proofs.Common.{◌≡◌, ◌≤◌, ◌-◌, ◌++◌, ℕ, List, drop, length}
use Rattle.pcap_variants.specs.Ahead.{Ahead}
use Rattle.pcap_variants.specs.Fronts.{MayFollow}
use Rattle.pcap_variants.proofs.plain.Plain.write.Given as goal

abbrev pub invariant-loop-passed : goal.invariant-loop-passed
invariant-loop-passed l = record {
  variant : l.self.variant ≡ l.fn.self.variant;
  held : l.self.held.items ≡ l.fn.self.held.items;
  within : l.passed ≤ length l.self.held.items;
  goes : (next plain : List ℕ) → MayFollow l.is_all next → Ahead l.fn.self.variant l.fn.self.left (l.fn.self.held.items ++ next) plain
      → (rest : List ℕ) × (l.fn.room.items ++ plain ≡ l.room.items ++ rest) × Ahead l.fn.self.variant l.self.left (drop l.passed l.fn.self.held.items ++ next) rest;
}

abbrev pub decreases-loop-passed : goal.decreases-loop-passed
decreases-loop-passed l = length l.self.held.items - l.passed

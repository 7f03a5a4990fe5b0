use Rattle.std.proofs.Common.{◌≡◌, ◌<◌, ◌/◌, ℕ, length}
use Rattle.pcapfile_info.proofs.Spans.{IsHalved}
use Rattle.pcapfile_info.proofs.spread.Spread.doubled.Given as goal

abbrev pub invariant-loop-slot : goal.invariant-loop-slot
invariant-loop-slot l = (length l.packets ≡ 64) × ((k : ℕ) → k < l.slot → IsHalved l.fn.self (l.fn.self.first / 2) l.packets k)

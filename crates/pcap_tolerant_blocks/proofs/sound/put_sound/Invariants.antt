use Rattle.std.proofs.Common.{◌≡◌, ◌++◌, ℕ, List, length}
use Rattle.pcap_tolerant_blocks.specs.SoundOptions.{PiecesSoFar}
use Rattle.pcap_tolerant_blocks.proofs.sound.put_sound.Given as goal

abbrev pub invariant-loop-left : goal.invariant-loop-left
invariant-loop-left g l = (kept : List ℕ) × PiecesSoFar g.B.ByteOrder.number_of g.O.PcapNgOption.kind l.fn.slice l.left kept × (l.out.items ≡ l.fn.out.items ++ kept)

abbrev pub decreases-loop-left : goal.decreases-loop-left
decreases-loop-left g l = length l.left

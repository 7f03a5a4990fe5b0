use Rattle.pcapfile_shown.proofs.Numbers.{AreCounts}
use Rattle.pcapfile_shown.proofs.members.counts.Given as goal

abbrev pub invariant-loop-place : goal.invariant-loop-place
invariant-loop-place l = AreCounts l.fn.spread l.place l.values.items

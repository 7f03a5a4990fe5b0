use Rattle.std.proofs.Common.{length}
use Rattle.measured_calls.proofs.bodies.parse_all.Given as goal

abbrev pub decreases-loop-front : goal.decreases-loop-front
decreases-loop-front l = length l.left

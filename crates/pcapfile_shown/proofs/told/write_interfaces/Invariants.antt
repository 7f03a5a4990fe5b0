use Rattle.std.proofs.Common.{length}
use Rattle.pcapfile_shown.proofs.EachInterface.{Wrote}
use Rattle.pcapfile_shown.proofs.told.write_interfaces.Given as goal

abbrev pub invariant-loop-described : goal.invariant-loop-described
invariant-loop-described g l = Wrote g.W.Write.write_str_gives l.fn.told.described.items l.fn.told.totals.interfaces.items (length l.yielded) l.later l.fn.output l.output

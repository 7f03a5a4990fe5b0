use Rattle.pcapfile_merge.proofs.Reversing.{Reversed}
use Rattle.pcapfile_merge.proofs.reordered.reverse_numbers.Given as goal

abbrev pub invariant-loop-option : goal.invariant-loop-option
invariant-loop-option l = Reversed l.fn.options l.options l.option-index

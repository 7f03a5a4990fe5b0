use Rattle.std.proofs.Common.{◌≡◌, ◌≤◌, length}
use Rattle.pcapfile_merge.specs.Little.{option_size}
use Rattle.pcapfile_merge.proofs.LittleOptions.{Turns}
use Rattle.pcapfile_merge.proofs.little.put_options.Given as goal

abbrev pub invariant-loop-size : goal.invariant-loop-size
invariant-loop-size l = record {
  turns : Turns l.fn.options l.fn.made.items l.left l.made.items;
  size : l.size ≡ option_size l.left;
  within : l.size ≤ length l.left;
}

abbrev pub decreases-loop-size : goal.decreases-loop-size
decreases-loop-size l = length l.left

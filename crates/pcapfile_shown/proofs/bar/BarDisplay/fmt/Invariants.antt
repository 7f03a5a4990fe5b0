use Rattle.std.proofs.Common.{replicate}
use Rattle.std.specs.Fmt.{HasWritten, IsPlainFormatter}
use Rattle.pcapfile_shown.proofs.bar.BarDisplay.fmt.Given as goal

abbrev pub invariant-loop-sign : goal.invariant-loop-sign
invariant-loop-sign g l =
    IsPlainFormatter l.initial.f → HasWritten g.W.Write.write_str_gives l.initial.f (replicate l._sign 35) l.f

use Rattle.std.proofs.Common.{arith}
use Rattle.std.proofs.KnownBytes.{Keeps-refl}
use Rattle.capcopy_run.proofs.items.list_items.Goals as goal

pub returns-clause-lists : goal.returns-clause-lists
returns-clause-lists g c = record {
  n = c.loop-listed.listed;
  here = g.L.Lister.state c.loop-listed.lister;
  left = g.R.Read.remaining c.loop-listed.input;
  mid = g.W.Write.contents c.loop-listed.output;
  so_far = c.loop-listed.invariant.so_far;
  ends = (omega (arith, c.loop-listed.invariant.within, c.loop-listed-test.false), Keeps-refl _);
  input = Keeps-refl _;
}

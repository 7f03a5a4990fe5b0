use Rattle.std.proofs.Common.{rules}
use Rattle.pcapfile_selected.proofs.selected.SelectedBlocks.begin.Goals as goal

pub returns-clause-begins : goal.returns-clause-begins
returns-clause-begins g c = record {
  source = c.in_ok-source.source;
  opens = search rules;
  choosing = c.in_ok-choosing.choosing;
  begins = c.in_ok-choosing.ensures.begins;
  number = c.first.result;
  least = c.first.ensures;
  outcome = c.none-outcome.result;
  new = search rules;
  passed = c.pass_to.result;
  passes = search rules;
  same = search rules;
  fault = search rules;
  opening = search rules;
}

use Rattle.std.proofs.Common.{inl, rules}
use Rattle.pcapfile_selected.proofs.blocks.BlockSource.put_tested.Goals as goal

pub returns : goal.returns
returns g c = inl (record {
  begun = c.in_ok-choosing.choosing;
  ended = c.put_selected-done.new.choosing;
  begins = c.in_ok-choosing.ensures.begins;
  number = c.first.result;
  least = c.first.ensures;
  old = c.args.outcome.now;
  new = c.requires;
  selects = c.put_selected-done.ensures;
  exceptions = search rules;
})

use Rattle.std.proofs.Common.{rules}
use Rattle.pcapfile_selected.specs.SelectedBlocks.{report}
use Rattle.pcapfile_selected.proofs.blocks.BlockSource.cut_selected.Goals as goal

pub returns : goal.returns
returns g c = record {
  counts = report c.put_tested.new.outcome c.put_tested.new.self.exceptions;
  result = c.put_tested.result;
  wrote = c.put_tested.ensures;
  outcome = search rules;
  exceptions = search rules;
}

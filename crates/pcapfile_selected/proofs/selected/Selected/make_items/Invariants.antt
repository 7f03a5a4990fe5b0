use Rattle.std.proofs.Common.{◌≡◌, ◌-◌, ◌^◌, List, length}
use Rattle.pcapfile_selected.specs.declared.selected.Selected.{Selected}
use Rattle.pcapfile_selected.specs.SelectedItems.{MakesAll}
use Rattle.pcapfile_selected.proofs.selected.Selected.make_items.Given as goal

abbrev pub invariant-loop-items : goal.invariant-loop-items
invariant-loop-items g l = record {
  steps : List (Selected _);
  makes : MakesAll g.R.Read.remaining l.fn.self steps l.self;
  count : length steps ≡ l.items;
}

abbrev pub decreases-loop-items : goal.decreases-loop-items
decreases-loop-items g l = 2 ^ 64 - l.items

use Rattle.std.proofs.Common.{inl, rules}
use Rattle.pcapfile_selected.proofs.MadeItems.{made_more}
use Rattle.pcapfile_selected.proofs.selected.Selected.make_more.Goals as goal

pub returns-in_err-make_items : goal.returns-in_err-make_items
returns-in_err-make_items g c = record {
  begun = c.empty.new.self;
  empties = c.empty.ensures;
  makes = inl (c.in_err-make_items.field-0.0, search rules, c.in_err-make_items.ensures);
}

pub returns : goal.returns
returns g c = made_more _ _ c.empty.new.self c.make_items.new.self _ _ c.empty.ensures (search rules) c.tell_failure.ensures

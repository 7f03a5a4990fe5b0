use Rattle.std.proofs.Common.{rules}
use Rattle.std.proofs.lemmas.List.{drop_all}
use Rattle.pcapfile_selected.proofs.MadeItems.{refilled}
use Rattle.pcapfile_selected.proofs.selected.Selected.refill.Goals as goal

pub returns : goal.returns
returns g c = refilled _ _ _ _ (drop_all c.args.self.now.given c.args.self.now.made.items (search rules)) c.make_more.ensures

use Rattle.pcapfile_list.proofs.StoredLists.{lists_told}
use Rattle.pcapfile_list.proofs.listing.list.Goals as goal

pub returns-in-Ok : goal.returns-in-Ok
returns-in-Ok g c = lists_told c.args.form c.in-Ok.format c.args.most (g.R.Read.remaining c.args.input.now) _ _ _ _ c.in-Ok.ensures.keeps c.in-Ok.ensures.tells c.list_as.ensures

use Rattle.pcapfile_merge.proofs.Steps.{old_there}
use Rattle.pcapfile_merge.proofs.choice.next_source.Goals as goal

pub returns-in-Some : goal.returns-in-Some
returns-in-Some g c =
    let place = c.in-Some.place in
    let chosen = c.in-Some.ensures in
    (place, chosen.0, chosen.1, old_there c.args.order c.args.sources.now place chosen.0 c.index-sources-place.result chosen.1 c.index-sources-place.is)

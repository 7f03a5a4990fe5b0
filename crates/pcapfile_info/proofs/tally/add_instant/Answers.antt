use Rattle.pcapfile_info.proofs.tally.add_instant.Goals as goal

pub returns-in-Some : goal.returns-in-Some
returns-in-Some c = rw c.in-Some.is (λ instants before. c.add.ensures instants before)

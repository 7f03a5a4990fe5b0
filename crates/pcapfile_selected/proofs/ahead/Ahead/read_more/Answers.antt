use Rattle.std.proofs.Common.{rules}
use Rattle.pcapfile_selected.proofs.ReadAhead.{held_more}
use Rattle.pcapfile_selected.proofs.ahead.Ahead.read_more.Goals as goal

pub returns-clause-reads : goal.returns-clause-reads
returns-clause-reads g c = held_more c.args.self.now.held c.read_behind.new.bytes c.args.self.now.len c.in_ok-count.count _ _
    (search rules) c.in_ok-count.ensures.came

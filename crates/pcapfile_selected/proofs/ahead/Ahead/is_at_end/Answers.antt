use Rattle.std.proofs.Common.{rules}
use Rattle.pcapfile_selected.proofs.ReadAhead.{held_at_end}
use Rattle.pcapfile_selected.proofs.ahead.Ahead.is_at_end.Goals as goal

pub returns : goal.returns
returns g c = record { end = λ is. held_at_end c.args.self.now.held c.args.self.now.len _ _ (search rules) c.in_ok-fill_buf.ensures.end (search rules) }

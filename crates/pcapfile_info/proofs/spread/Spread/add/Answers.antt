use Rattle.pcapfile_info.proofs.Spans.{fine_more}
use Rattle.pcapfile_info.proofs.spread.Spread.add.Goals as goal

pub returns-then-is_in_last : goal.returns-then-is_in_last
returns-then-is_in_last c = λ instants spreads. record {
  rows = c.put.ensures.rows instants c.args.instant spreads.rows (c.is_in_last.ensures c.if-is_in_last.true);
  fine = rw c.put.ensures.width (fine_more instants c.args.instant c.args.self.now.width spreads.fine);
}

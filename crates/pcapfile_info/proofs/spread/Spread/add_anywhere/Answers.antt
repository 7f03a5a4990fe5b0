use Rattle.std.proofs.Common.{refl}
use Rattle.pcapfile_info.proofs.Spans.{fine_more}
use Rattle.pcapfile_info.proofs.spread.Spread.add_anywhere.Goals as goal

pub returns-then-has_room : goal.returns-then-has_room
returns-then-has_room c = λ instants spreads. record {
  rows = c.put.ensures.rows instants c.args.instant spreads.rows refl;
  fine = rw c.put.ensures.width (fine_more instants c.args.instant c.args.self.now.width spreads.fine);
}

pub returns-else-has_room : goal.returns-else-has_room
returns-else-has_room c = λ instants spreads.
    let wide = c.widen.ensures.fine instants spreads in
    record {
      rows = c.put-else-has_room.ensures.rows instants c.args.instant wide.0 refl;
      fine = rw c.put-else-has_room.ensures.width wide.1;
    }

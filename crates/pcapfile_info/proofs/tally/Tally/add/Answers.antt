use Rattle.std.proofs.Common.{rules, arith}
use Rattle.pcapfile_info.proofs.Tallying.{tally_push, sizes_push}
use Rattle.pcapfile_info.proofs.tally.Tally.add.Goals as goal

pub returns : goal.returns
returns c = λ packets before.
    let old = c.args.self.now in
    let same = c.add_time.ensures.same in
    tally_push packets c.args.seen old _ before (omega (arith, same.0, c.saturating_add-self.ensures)) (omega (arith, same.1, c.saturating_add-self-2.ensures)) (omega (arith, same.2, c.saturating_add-self-3.ensures, c.from.ensures))
    c.add_time.ensures.earliest c.add_time.ensures.latest c.add_time.ensures.order c.add_time.ensures.spread
    (sizes_push old.sizes _ packets c.args.seen c.class_of-class.result c.saturating_add.result c.class_of-class.ensures.class c.class_of-class.ensures.within (search rules) (omega (arith, c.saturating_add.ensures)) same.3 before.sizes)

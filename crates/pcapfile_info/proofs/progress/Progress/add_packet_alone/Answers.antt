use Rattle.std.proofs.Common.{refl, arith}
use Rattle.pcapfile_info.proofs.Alone.{alone_push}
use Rattle.pcapfile_info.proofs.progress.Progress.add_packet_alone.Goals as goal

pub returns-clause-adds : goal.returns-clause-adds
returns-clause-adds c =
    let all = rw c.seen_of.ensures at c.add.ensures in
    (refl, omega (arith, c.saturating_add-self.ensures, c.from.ensures), λ sights before. alone_push sights _ c.args.self.now.totals _ before (all _ before.all) refl refl refl refl refl)

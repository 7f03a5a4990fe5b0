use Rattle.std.proofs.Common.{refl, arith}
use Rattle.std.proofs.lemmas.Result.{err_from_is_err_and}
use Rattle.pcapfile_info.specs.declared.late.Late.TheVariants.{NoPacket}
use Rattle.pcapfile_info.specs.declared.seen.Sight.TheVariants.{Refused, Section, Other}
use Rattle.pcapfile_info.proofs.OtherBlocks.{others_push, others_stay}
use Rattle.pcapfile_info.proofs.Tallying.{nothing_tallied}
use Rattle.pcapfile_info.proofs.Totalling.{totals_push, totals_described, totals_stay}
use Rattle.pcapfile_info.proofs.totals.Totals.add.Goals as goal

pub returns-in_err-push-in-Interface-clause-adds : goal.returns-in_err-push-in-Interface-clause-adds
returns-in_err-push-in-Interface-clause-adds c =
    let p = err_from_is_err_and c.from_residual-in_err-push-in-Interface.result c.from_residual-in_err-push-in-Interface.ensures.1 in
    rw p.1 (λ first sights before. totals_stay first sights c.args.self.now _ before refl refl c.in_err-push-in-Interface.ensures.items refl refl refl)

pub returns-in_ok-add_packet-in-Packet-clause-adds : goal.returns-in_ok-add_packet-in-Packet-clause-adds
returns-in_ok-add_packet-in-Packet-clause-adds c = rw c.in-Packet.is c.in_ok-add_packet-in-Packet.ensures.adds

pub returns-in-Refused-clause-adds : goal.returns-in-Refused-clause-adds
returns-in-Refused-clause-adds c = λ first sights before. rw c.in-Refused.is (totals_push first sights c.args.self.now _ before _ refl refl refl refl refl (omega (arith, c.saturating_add-self.ensures)) (omega (arith, before.sections))
    (others_stay sights Refused (λ among. refl) c.args.self.now.others _ before.others refl))

pub returns-in_ok-push-in-Interface-clause-adds : goal.returns-in_ok-push-in-Interface-clause-adds
returns-in_ok-push-in-Interface-clause-adds c = λ first sights before. rw c.in-Interface.is (totals_described first sights c.args.self.now _ before NoPacket nothing_tallied refl refl c.in_ok-push-in-Interface.ensures.items refl refl refl)

pub returns-in-Section-clause-adds : goal.returns-in-Section-clause-adds
returns-in-Section-clause-adds c = λ first sights before. rw c.in-Section.is (totals_push first sights c.args.self.now _ before _ refl refl refl refl refl (omega (arith, before.refused)) (omega (arith, c.saturating_add-self-in-Section.ensures))
    (others_stay sights Section (λ among. refl) c.args.self.now.others _ before.others refl))

pub returns-in-Other-clause-adds : goal.returns-in-Other-clause-adds
returns-in-Other-clause-adds c = λ first sights before. rw c.in-Other.is (totals_push first sights c.args.self.now _ before _ refl refl refl refl refl (omega (arith, before.refused)) (omega (arith, before.sections))
    (others_push sights (Other c.in-Other.kind) c.args.self.now.others _ before.others (record {
      names = c.add.ensures.names;
      statistics = c.add.ensures.statistics;
      journal = c.add.ensures.journal;
      secrets = c.add.ensures.secrets;
      custom = c.add.ensures.custom;
      unknown = c.add.ensures.unknown;
    })))

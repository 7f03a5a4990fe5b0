use Rattle.std.proofs.Common.{◌≡◌, ◌∙◌, ◌++◌, ◌∷◌, [], set, refl, sym, subst, ap}
use Rattle.std.specs.Prelude.{filter}
use Rattle.std.proofs.lemmas.List.{set-get_or}
use Rattle.std.proofs.lemmas.Result.{err_from_is_err_and}
use Rattle.pcapfile_info.specs.declared.late.Late.{Late}
use Rattle.pcapfile_info.specs.declared.totals.Totals.{Totals}
use Rattle.pcapfile_info.specs.Tallies.{Tallies, tally_of}
use Rattle.pcapfile_info.specs.Totals.{is_by, is_undescribed, packets_of}
use Rattle.pcapfile_info.proofs.Totalling.{totals_undescribed, totals_by, totals_stay}
use Rattle.pcapfile_info.proofs.totals.Totals.add_packet.Goals as goal
use Rattle.pcapfile_info.proofs.totals.Totals.add_packet.Goals.{in-None, in-Some+in_ok-add-in-Some}

pub returns-in_err-add-in-Some-clause-adds : goal.returns-in_err-add-in-Some-clause-adds
returns-in_err-add-in-Some-clause-adds c =
    let p = err_from_is_err_and c.from_residual.result c.from_residual.ensures.1 in
    let items = c.args.self.now.interfaces.items in
    let same : set items c.in-Some.index c.add-in-Some.new.self ≡ items =
    ap (set items c.in-Some.index) (c.in_err-add-in-Some.ensures.adds ∙ c.index_mut.ensures.value) ∙ set-get_or items c.in-Some.index c.index_mut.result.now in
    rw p.1 (λ first sights before. totals_stay first sights c.args.self.now _ before refl refl same refl refl refl)

pub returns-clause-adds : goal.returns-clause-adds
returns-clause-adds c = λ first sights before.
    elim c.match-seen.branch [
      | in-None w ↦
          let all = c.add-2.ensures (packets_of sights) (subst (λ (t : Totals). Tallies (packets_of sights) t.all) (sym w.self-is) before.all) in
          totals_undescribed first sights c.args.self.now _ before c.args.seen c.requires all (ap (λ (t : Totals). t.refused) w.self-is) (ap (λ (t : Totals). t.sections) w.self-is) (ap (λ (t : Totals). t.others) w.self-is) w.in-None.is
          (subst (λ (t : Totals). Tallies (filter is_undescribed (packets_of sights) ++ c.args.seen ∷ []) t.undescribed) (sym w.self-is) (w.add.ensures _ before.undescribed)) (ap (λ (t : Totals). t.interfaces.items) w.self-is)
      | in-Some+in_ok-add-in-Some w ↦
          let all = c.add-2.ensures (packets_of sights) (subst (λ (t : Totals). Tallies (packets_of sights) t.all) (sym w.self-is) before.all) in
          let below = rw w.in-Some.is at c.requires in
          let there = subst (λ (t : Late). Tallies (filter (is_by w.in-Some.index) (packets_of sights)) (tally_of t)) (sym w.index_mut.ensures.value) (before.by_interface w.in-Some.index w.index_mut.result.now below) in
          totals_by first sights c.args.self.now _ before c.args.seen c.requires all (ap (λ (t : Totals). t.refused) w.self-is) (ap (λ (t : Totals). t.sections) w.self-is) (ap (λ (t : Totals). t.others) w.self-is) w.in-Some.index w.add-in-Some.new.self w.in-Some.is below
          (w.in_ok-add-in-Some.ensures.adds _ there) (ap (λ (t : Totals). t.undescribed) w.self-is) (ap (λ (t : Totals). t.interfaces.items) w.self-is)
    ]

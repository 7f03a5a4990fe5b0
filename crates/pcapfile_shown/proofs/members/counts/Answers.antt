use Rattle.std.proofs.Common.{◌∙◌, ap, arith}
use Rattle.std.specs.Prelude.{map}
use Rattle.serde_json.specs.View.{view}
use Rattle.serde_json.proofs.Views.{view-Array}
use Rattle.pcapfile_shown.proofs.Numbers.{counts_all, counts_more}
use Rattle.pcapfile_shown.proofs.members.counts.Goals as goal

pub returns : goal.returns
returns c =
    let all = counts_all c.args.spread.now c.loop-place.values.items c.loop-place.place (omega (arith, c.loop-place-test.false, c.loop-place.auto.place-end)) c.loop-place.invariant in
    (all.0, all.1, view-Array c.loop-place.values ∙ all.2)

pub loop-place-preserved : goal.loop-place-preserved
loop-place-preserved c =
    let spread = c.args.spread.now in
    let values = c.loop-place.values.items in
    let more = counts_more spread values c.from.result c.loop-place.place c.packets_in.result c.loop-place-test.true c.loop-place.invariant c.from.ensures c.packets_in.ensures.counts in
    (more.0, more.1, ap (map view) c.in_ok-push.ensures.ok ∙ more.2)

use Rattle.std.proofs.Common.{◌++◌, ◌∷◌, [], subst, sym}
use Rattle.std.proofs.lemmas.Bool.{iff_false}
use Rattle.pcapfile_info.specs.Spreads.{IsFine}
use Rattle.pcapfile_info.proofs.Spans.{fine_more, finer, narrow, nearer}
use Rattle.pcapfile_info.proofs.spread.Spread.widen.Goals as goal

pub loop-spread-init : goal.loop-spread-init
loop-spread-init c = λ instants spreads. (spreads.rows, fine_more instants c.args.instant c.args.self.now.width spreads.fine)

pub doubled-spread-requires : goal.doubled-spread-requires
doubled-spread-requires c = narrow c.loop-spread.spread c.args.instant c.ranges.instant.fits (iff_false c.has_room.ensures c.loop-spread-test.true)

pub loop-spread-smaller : goal.loop-spread-smaller
loop-spread-smaller c =
    nearer c.loop-spread.spread c.doubled-spread.result c.args.instant (iff_false c.has_room.ensures c.loop-spread-test.true) c.doubled-spread.ensures.width c.doubled-spread.ensures.first c.doubled-spread.ensures.last

pub loop-spread-preserved : goal.loop-spread-preserved
loop-spread-preserved c = λ instants spreads.
    let so_far = c.loop-spread.invariant instants spreads in (
      c.doubled-spread.ensures.rows instants so_far.0,
      subst (IsFine (instants ++ c.args.instant ∷ [])) (sym c.doubled-spread.ensures.width) (finer instants c.args.instant c.loop-spread.spread so_far.0 (iff_false c.has_room.ensures c.loop-spread-test.true)),
    )

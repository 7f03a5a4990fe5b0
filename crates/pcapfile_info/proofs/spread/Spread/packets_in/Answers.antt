use Rattle.std.proofs.Common.{◌∙◌, ap, sym, arith, inl, inr}
use Rattle.pcapfile_run.specs.Passing.{counted}
use Rattle.pcapfile_info.proofs.Spans.{place_counts, outside_none}
use Rattle.pcapfile_info.proofs.spread.Spread.packets_in.Goals as goal
use Rattle.pcapfile_info.proofs.spread.Spread.packets_in.Goals.{else-self-span-via-then-self-span+else-span-self, else-self-span-via-else-self-span}

pub returns-then-span-self-clause-counts : goal.returns-then-span-self-clause-counts
returns-then-span-self-clause-counts c = λ instants rows.
    let s = c.args.self.now in
    rows.counts c.slot_of.result c.slot_of.ensures.within
    ∙ ap counted (place_counts s.width s.first s.last c.args.span c.slot_of.result instants rows.within c.if-self-span.true c.if-span-self.true s.few (sym c.slot_of.ensures.place))

pub returns-else-self-span-clause-counts : goal.returns-else-self-span-clause-counts
returns-else-self-span-clause-counts c = λ instants rows.
    let s = c.args.self.now in
    elim c.else-self-span.branch [
      | else-self-span-via-then-self-span+else-span-self w ↦ ap counted (sym (outside_none s.width s.first s.last c.args.span instants rows.within (inr (omega (arith, w.if-span-self.false)))))
      | else-self-span-via-else-self-span w ↦ ap counted (sym (outside_none s.width s.first s.last c.args.span instants rows.within (inl (omega (arith, w.if-self-span.false)))))
    ]

pub returns-then-span-self-clause-beyond : goal.returns-then-span-self-clause-beyond
returns-then-span-self-clause-beyond c = λ beyond. absurd (beyond (c.if-self-span.true, c.if-span-self.true))

pub returns-else-self-span-clause-within : goal.returns-else-self-span-clause-within
returns-else-self-span-clause-within c = λ from to.
    elim c.else-self-span.branch [
      | else-self-span-via-then-self-span+else-span-self w ↦ absurd (omega (arith, w.if-span-self.false, to))
      | else-self-span-via-else-self-span w ↦ absurd (omega (arith, w.if-self-span.false, from))
    ]

use Rattle.std.proofs.Common.{◌∙◌, ◌*◌, ◌/◌, ap, sym, arith, inr}
use Rattle.pcapfile_run.specs.Passing.{counted}
use Rattle.pcapfile_info.proofs.Spans.{count_both, counted_both, half_within, outside_none}
use Rattle.pcapfile_info.proofs.spread.Spread.packets_in_both.Goals as goal

pub returns-then-span-self : goal.returns-then-span-self
returns-then-span-self c = λ instants rows.
    let s = c.args.self.now in
    ap counted (sym (outside_none (s.width * 2) (s.first / 2) (s.last / 2) c.args.span instants (half_within s.width s.first s.last instants rows.within) (inr (omega (arith, c.if-span-self.true)))))

pub returns : goal.returns
returns c = λ instants rows.
    let s = c.args.self.now in
    c.saturating_add.ensures ∙ counted_both c.packets_in.result c.packets_in-2.result _ _ (c.packets_in.ensures.counts instants rows) (c.packets_in-2.ensures.counts instants rows) ∙ ap counted (sym (count_both s.width c.args.span instants))

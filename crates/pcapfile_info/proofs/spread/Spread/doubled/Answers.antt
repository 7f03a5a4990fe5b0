use Rattle.std.proofs.Common.{◌/◌, ◌∙◌, arith, refl}
use Rattle.std.proofs.lemmas.List.{length-set}
use Rattle.pcapfile_info.proofs.Spans.{half_bounded, halved_more, halved_rows}
use Rattle.pcapfile_info.proofs.spread.Spread.doubled.Goals as goal

pub loop-slot-preserved : goal.loop-slot-preserved
loop-slot-preserved c =
    let s = c.args.self.now in (
      length-set c.loop-slot.packets c.loop-slot.slot c.packets_in_both.result ∙ c.loop-slot.invariant.0,
      halved_more s (s.first / 2) c.loop-slot.packets _ c.loop-slot.slot c.packets_in_both.result c.span_at.result c.loop-slot-test.true c.loop-slot.invariant.0 refl c.loop-slot.invariant.1
          c.span_at.ensures.from c.span_at.ensures.near c.span_at.ensures.place c.packets_in_both.ensures,
    )

pub invariant_of-result-clause-bounded : goal.invariant_of-result-clause-bounded
invariant_of-result-clause-bounded c = half_bounded c.args.self.now.last c.args.self.now.width c.args.self.now.bounded

pub returns-clause-rows : goal.returns-clause-rows
returns-clause-rows c = λ instants rows.
    halved_rows instants c.args.self.now _ rows refl refl refl (λ slot less. c.loop-slot.invariant.1 slot (omega (arith, less, c.loop-slot-test.false, c.loop-slot.auto.slot-end)))

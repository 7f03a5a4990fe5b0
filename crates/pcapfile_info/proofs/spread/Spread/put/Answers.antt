use Rattle.std.proofs.Common.{◌∙◌, ◌%◌, ℕ, ap, sym, arith, refl, rules}
use Rattle.pcapfile_info.proofs.Spans.{first_push, last_push, places_push, within_push}
use Rattle.pcapfile_info.proofs.spread.Spread.put.Goals as goal

pub returns-clause-rows : goal.returns-clause-rows
returns-clause-rows c = λ instants instant rows is.
    let s = c.args.self.now in
    record {
      counts = places_push s.packets _ s.width c.slot_of-slot.result c.saturating_add.result instants instant (ap (λ (n : ℕ). n % 64) is ∙ sym c.slot_of-slot.ensures.place) c.slot_of-slot.ensures.within (search rules) (omega (arith, c.saturating_add.ensures)) refl rows.counts;
      within = within_push s.width s.first s.last c.min-self.result c.max-self.result instants instant (omega (arith, c.min-self.ensures, is)) (omega (arith, c.max-self.ensures, is)) rows.within;
      first = first_push s.width s.first c.min-self.result instants instant (omega (arith, c.min-self.ensures, is)) rows.first;
      last = last_push s.width s.last c.max-self.result instants instant (omega (arith, c.max-self.ensures, is)) rows.last;
    }

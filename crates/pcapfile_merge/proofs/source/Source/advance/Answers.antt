use Rattle.std.proofs.Common.{◌∙◌, ℕ, List, None, Some, refl, subst, sym}
use Rattle.pcapfile_merge.specs.Holding.{TakesThere}
use Rattle.pcapfile_merge.proofs.Given.{advanced, nothing_more, stays_taken, there_taken}
use Rattle.pcapfile_merge.proofs.source.Source.advance.Goals as goal

pub next_there-requires : goal.next_there-requires
next_there-requires g c = rw c.requires.1 at c.args.self.now.ready

pub returns-in-Some : goal.returns-in-Some
returns-in-Some g c =
    let old = c.args.self.now in
    let fault = rw c.requires.1 at old.whole in
    let there = subst (λ (l : List ℕ). TakesThere g.R.Read.remaining old.base l old.reader c.next_there.new.self (Some c.in-Some.pending)) c.as_slice.ensures.value c.in-Some.ensures.there in
    advanced g.R.Read.remaining c.args.number old _ (sym c.holds_interface.ensures ∙ c.if-holds_interface.false)
    (refl, refl, there_taken g.R.Read.remaining old.base old.numbers.items old.reader c.next_there.new.self c.in-Some.pending old.taken.fault fault there, nothing_more old.left_out c.in-Some.pending old.room c.in-Some.ensures.all)

pub returns-in-None : goal.returns-in-None
returns-in-None g c =
    let old = c.args.self.now in
    let new = c.advance_any.new.self in
    let advances = c.advance_any.ensures in
    let there = subst (λ (l : List ℕ). TakesThere g.R.Read.remaining old.base l old.reader c.next_there.new.self None) c.as_slice.ensures.value c.in-None.ensures.there in
    advanced g.R.Read.remaining c.args.number old new (sym c.holds_interface.ensures ∙ c.if-holds_interface.false)
    (advances.0, advances.1, stays_taken g.R.Read.remaining old.base old.numbers.items old.reader c.next_there.new.self new.reader new.taken there advances.2, advances.3)

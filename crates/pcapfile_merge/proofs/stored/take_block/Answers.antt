use Rattle.std.proofs.Common.{Err, Ok, true, inl, inr}
use Rattle.std.proofs.lemmas.Result.{err_from_is_err_and}
use Rattle.pcap_ng.specs.Reader.{interfaces_in_force, lent_item}
use Rattle.pcapfile_merge.proofs.Turning.{given_here, tells_there}
use Rattle.pcapfile_merge.proofs.stored.take_block.Goals as goal

pub returns-in_err-header-clause-takes : goal.returns-in_err-header-clause-takes
returns-in_err-header-clause-takes g c =
    let p = err_from_is_err_and c.from_residual.result c.from_residual.ensures.1 in
    let passes = c.in_err-header.ensures in
    rw (p.1, p.2) (passes.0, passes.1, inl (passes.2, passes.3))

pub returns-in_err-pending_in_giver-clause-takes : goal.returns-in_err-pending_in_giver-clause-takes
returns-in_err-pending_in_giver-clause-takes g c =
    let p = err_from_is_err_and c.from_residual-in_err-pending_in_giver.result c.from_residual-in_err-pending_in_giver.ensures.1 in
    let reader = c.pass_to_giver.new.reader in
    let item = lent_item reader c.in-Some.header in
    let passes = rw c.in-Some.is at c.in_ok-header.ensures in
    let tells = tells_there _ _ _ (interfaces_in_force reader) _ item.block c.pending_in_giver.new.made (Err c.in_err-pending_in_giver.field-0.0) c.numbers_behind-numbers.ensures c.interfaces.ensures c.block-block.ensures.block c.in_err-pending_in_giver.ensures.tells in
    rw (p.1, p.2) (passes.0, passes.1, inr (item, passes.2, tells))

pub returns-clause-takes : goal.returns-clause-takes
returns-clause-takes g c =
    let reader = c.pass_to_giver.new.reader in
    let item = lent_item reader c.in-Some.header in
    let passes = rw c.in-Some.is at c.in_ok-header.ensures in
    let tells = tells_there _ _ _ (interfaces_in_force reader) _ item.block c.pending_in_giver.new.made (Ok c.in_ok-pending_in_giver.field-0) c.numbers_behind-numbers.ensures c.interfaces.ensures c.block-block.ensures.block c.in_ok-pending_in_giver.ensures.tells in
    (passes.0, passes.1, item, passes.2, tells)

pub pending_in_giver-requires-clause-gives : goal.pending_in_giver-requires-clause-gives
pending_in_giver-requires-clause-gives g c =
    let reader = c.pass_to_giver.new.reader in
    let passes = rw c.in-Some.is at c.in_ok-header.ensures in
    given_here _ _ (lent_item reader c.in-Some.header) true c.interfaces.ensures c.block-block.ensures.block passes.3

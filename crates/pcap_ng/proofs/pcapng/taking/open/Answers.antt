use Rattle.std.proofs.Common.{◌≡◌, sym}
use Rattle.std.specs.Prelude.{⊤}
use Rattle.std.proofs.lemmas.Result.{err_from_is_err_and}
use Rattle.pcap_core.specs.declared.common.Endianness.TheVariants.{Big}
use Rattle.pcap_items.specs.Held.{held_bytes}
use Rattle.pcap_ng.specs.State.{opening, order_at}
use Rattle.pcap_ng.proofs.HeadedFrames.{frames_lawful}
use Rattle.pcap_ng.proofs.Refusing.{opening_order}
use Rattle.pcap_ng.proofs.Causes.{pull_frame, pull_held, opening_refused, opening_asked, opening_kept, opening_says}
use Rattle.pcap_ng.proofs.pcapng.taking.open.Goals as goal

pub fill_item-requires-clause-lawful : goal.fill_item-requires-clause-lawful
fill_item-requires-clause-lawful g c = frames_lawful

pub returns-in_err-head-clause-refused : goal.returns-in_err-head-clause-refused
returns-in_err-head-clause-refused g c =
    let p = err_from_is_err_and c.from_residual.result c.from_residual.ensures.1 in
    let is : Big ≡ order_at opening = sym opening_order in
    let x = pull_frame opening Big is _ _ _ c.in_err-head.field-0.0 c.in_err-head.ensures.fills in
    rw (p.1, p.2) (opening_refused (g.T.Read.remaining c.args.stream.now) c.fill_item.new.has_failed c.in_err-head.field-0.0 x.0)

pub returns-in_err-in_force-clause-refused : goal.returns-in_err-in_force-clause-refused
returns-in_err-in_force-clause-refused g c =
    let p = err_from_is_err_and c.from_residual-in_err-in_force.result c.from_residual-in_err-in_force.ensures.1 in
    let is : Big ≡ order_at opening = sym opening_order in
    let filled = rw c.in-Some.is at c.in_ok-head.ensures.fills in
    let held = held_bytes c.fill_item.new.held in
    let e = c.in_err-in_force.field-0.0 in
    let x = rw c.as_slice.ensures at c.in_err-in_force.ensures in
    let y = pull_held opening Big is held _ _ _ filled.0 filled.4 filled.3 ⊤ e (opening_says ⊤ held e x) in
    rw (p.1, p.2) (opening_refused (g.T.Read.remaining c.args.stream.now) c.fill_item.new.has_failed e y.0)

pub returns-in_err-head-clause-asked : goal.returns-in_err-head-clause-asked
returns-in_err-head-clause-asked g c =
    let is : Big ≡ order_at opening = sym opening_order in
    let p = err_from_is_err_and c.from_residual.result c.from_residual.ensures.1 in
    rw p.1 (opening_asked _ _ (pull_frame opening Big is _ _ _ c.in_err-head.field-0.0 c.in_err-head.ensures.fills).1)

pub returns-in_default-clause-asked : goal.returns-in_default-clause-asked
returns-in_default-clause-asked g c = opening_kept _ _ (rw c.in_default.is at c.in_ok-head.ensures.fills).3

pub returns-in_err-in_force-clause-asked : goal.returns-in_err-in_force-clause-asked
returns-in_err-in_force-clause-asked g c =
    let is : Big ≡ order_at opening = sym opening_order in
    let filled = rw c.in-Some.is at c.in_ok-head.ensures.fills in
    let held = held_bytes c.fill_item.new.held in
    let x = rw c.as_slice.ensures at c.in_err-in_force.ensures in
    let p = err_from_is_err_and c.from_residual-in_err-in_force.result c.from_residual-in_err-in_force.ensures.1 in
    rw p.1 (opening_asked _ _ (pull_held opening Big is held _ _ _ filled.0 filled.4 filled.3 ⊤ _ (opening_says ⊤ held _ x)).1)

pub returns-clause-takes : goal.returns-clause-takes
returns-clause-takes g c =
    let filled = rw c.in-Some.is at c.in_ok-head.ensures.fills in
    (rw c.as_slice.ensures at c.in_ok-in_force.ensures, filled.4)

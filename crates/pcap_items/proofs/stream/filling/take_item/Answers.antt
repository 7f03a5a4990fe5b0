use Rattle.std.proofs.Common.{◌<◌, length, ◌∙◌, arith}
use Rattle.std.proofs.lemmas.Result.{err_from_is_err_and}
use Rattle.pcap_core.specs.Answer.{lacks}
use Rattle.pcap_items.specs.Held.{held_bytes}
use Rattle.pcap_items.proofs.Filled.{Begins, unmet_behind, taken_stated}
use Rattle.pcap_items.proofs.stream.filling.take_item.Goals as goal

pub returns-in_err-body-clause-takes : goal.returns-in_err-body-clause-takes
returns-in_err-body-clause-takes g c =
    let f = g.H.HasHead.format c.args.item.now in
    let laws = c.requires.lawful in
    let q = g.H.HasHead.state c.args.item.now in
    let filled = rw c.in-Some.is at c.in_ok-head.ensures.fills in
    let p = err_from_is_err_and c.from_residual-in_err-body.result c.from_residual-in_err-body.ensures.1 in
    let held = held_bytes c.fill_head.new.held in
    let n = c.in-Some.rest in
    let b : Begins f laws q (g.T.Read.remaining c.args.stream.now) (g.T.Read.remaining c.fill_head.new.stream) held = record { came = filled.4; asked = filled.3 } in
    let part = c.in_err-body.ensures.part in
    let some : 0 < length held = omega (arith, filled.1, laws.some q) in
    let ask : f.says q held (lacks n) = filled.2.2 (omega (arith, part.2)) in
    rw (p.1, p.2) (unmet_behind f laws q c.in_err-body.field-0.0 held _ _ _ _ _ n b some ask filled.0 part c.in_err-body.ensures.cause)

pub returns-clause-takes : goal.returns-clause-takes
returns-clause-takes g c =
    let f = g.H.HasHead.format c.args.item.now in
    let laws = c.requires.lawful in
    let q = g.H.HasHead.state c.args.item.now in
    let filled = rw c.in-Some.is at c.in_ok-head.ensures.fills in
    let held = held_bytes c.fill_head.new.held in
    let n = c.in-Some.rest in
    let b : Begins f laws q (g.T.Read.remaining c.args.stream.now) (g.T.Read.remaining c.fill_head.new.stream) held = record { came = filled.4; asked = filled.3 } in
    (c.in_ok-body.ensures.told ∙ filled.0, taken_stated f laws q (g.H.HasHead.knows c.args.item.now) c.in-Some.head n held c.in_ok-body.body.items _ _ _ filled.1 filled.2 b c.in_ok-body.ensures.count c.in_ok-body.ensures.bytes)

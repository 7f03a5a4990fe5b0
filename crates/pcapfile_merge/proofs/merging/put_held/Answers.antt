use Rattle.std.proofs.Common.{Err, Ok, false, true}
use Rattle.std.proofs.lemmas.Result.{err_from_is_err_and}
use Rattle.pcapfile_merge.proofs.Steps.{held_put}
use Rattle.pcapfile_merge.proofs.merging.put_held.Goals as goal

pub returns-in_err-put : goal.returns-in_err-put
returns-in_err-put g c =
    let p = err_from_is_err_and c.from_residual.result c.from_residual.ensures.1 in
    rw (p.1, p.2)
    (held_put c.args.source.now c.in-Some.pending c.data-data.result.now true (g.W.Write.contents c.args.writer.now) (g.W.Write.contents c.put.new.writer) (Err c.in_err-put.field-0.0)
    c.in-Some.is c.data-data.ensures c.if-pending.true c.in_err-put.ensures.out)

pub returns-then-pending : goal.returns-then-pending
returns-then-pending g c =
    held_put c.args.source.now c.in-Some.pending c.data-data.result.now true (g.W.Write.contents c.args.writer.now) (g.W.Write.contents c.put.new.writer) (Ok tt) c.in-Some.is c.data-data.ensures c.if-pending.true c.in_ok-put.ensures.out

pub returns-in_err-put_packet : goal.returns-in_err-put_packet
returns-in_err-put_packet g c =
    let p = err_from_is_err_and c.from_residual-in_err-put_packet.result c.from_residual-in_err-put_packet.ensures.1 in
    rw (p.1, p.2)
    (held_put c.args.source.now c.in-Some.pending c.data-data.result.now false (g.W.Write.contents c.args.writer.now) (g.W.Write.contents c.put_packet.new.writer) (Err c.in_err-put_packet.field-0.0)
    c.in-Some.is c.data-data.ensures c.if-pending.false c.in_err-put_packet.ensures.out)

pub returns : goal.returns
returns g c =
    held_put c.args.source.now c.in-Some.pending c.data-data.result.now false (g.W.Write.contents c.args.writer.now) (g.W.Write.contents c.put_packet.new.writer) (Ok tt) c.in-Some.is c.data-data.ensures c.if-pending.false c.in_ok-put_packet.ensures.out

use Rattle.std.proofs.lemmas.Result.{err_from_is_err_and}
use Rattle.pcap_written.proofs.Packets.{first_tears, second_tears, third_ends}
use Rattle.pcap_written.proofs.packet.put_packet.Goals as goal

pub returns-in_err-put-clause-out : goal.returns-in_err-put-clause-out
returns-in_err-put-clause-out g c =
    let a = c.args in
    let begun = g.W.Write.contents c.put.new.writer in
    let p = err_from_is_err_and c.from_residual.result c.from_residual.ensures.1 in
    rw (p.1, p.2) (
    first_tears g.B.ByteOrder.bytes_of g.met.B.ByteOrder.length_bytes a.interface_id a.timestamp a.original_len a.bytes.now c.head_bytes-head.result (g.W.Write.contents a.writer.now) begun begun begun c.in_err-put.field-0.0 c.head_bytes-head.ensures
    c.in_err-put.ensures.out
    )

pub returns-in_err-put-2-clause-out : goal.returns-in_err-put-2-clause-out
returns-in_err-put-2-clause-out g c =
    let a = c.args in
    let torn = g.W.Write.contents c.put-2.new.writer in
    let p = err_from_is_err_and c.from_residual-in_err-put-2.result c.from_residual-in_err-put-2.ensures.1 in
    rw (p.1, p.2) (
    second_tears g.B.ByteOrder.bytes_of g.met.B.ByteOrder.length_bytes a.interface_id a.timestamp a.original_len a.bytes.now c.head_bytes-head.result (g.W.Write.contents a.writer.now) (g.W.Write.contents c.put.new.writer) torn torn
    c.in_err-put-2.field-0.0 c.head_bytes-head.ensures c.in_ok-put.ensures.out c.in_err-put-2.ensures.out
    )

pub returns-clause-out : goal.returns-clause-out
returns-clause-out g c =
    let a = c.args in
    let contents = g.W.Write.contents in
    third_ends g.B.ByteOrder.bytes_of g.met.B.ByteOrder.length_bytes a.interface_id a.timestamp a.original_len a.bytes.now c.head_bytes-head.result (contents a.writer.now) (contents c.put.new.writer) (contents c.put-2.new.writer) (contents c.put-3.new.writer)
    c.put-3.result c.tail_bytes-tail.result c.head_bytes-head.ensures c.tail_bytes-tail.ensures c.in_ok-put.ensures.out c.in_ok-put-2.ensures.out c.put-3.ensures.out

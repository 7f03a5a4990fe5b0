use Rattle.std.proofs.Common.{ℕ, List, Err, subst}
use Rattle.std.proofs.lemmas.Result.{err_from_is_err_and}
use Rattle.pcap_core.specs.Bytes.{cow_bytes}
use Rattle.pcap_items.specs.Writing.{WritesAll}
use Rattle.pcap_items.proofs.Writing.{first_fails, second_ends}
use Rattle.pcap_classic.proofs.pcap.writer.put_packet.Goals as goal

pub returns-in_err-put-clause-out : goal.returns-in_err-put-clause-out
returns-in_err-put-clause-out g c =
    let p = err_from_is_err_and c.from_residual.result c.from_residual.ensures.1 in
    let before = g.W.Write.contents c.args.writer.now in
    let after = g.W.Write.contents c.put.new.writer in
    let e = c.in_err-put.field-0.0 in
    let out = subst (λ (bytes : List ℕ). WritesAll before after bytes (Err e)) c.bytes_under.ensures c.in_err-put.ensures.out in
    rw (p.1, p.2) (first_fails _ (cow_bytes c.args.packet.now.data_) before after e out)

pub returns-clause-out : goal.returns-clause-out
returns-clause-out g c = rw (← c.bytes_under.ensures, ← c.as_slice.ensures) (second_ends _ _ _ _ _ c.put-2.result c.in_ok-put.ensures.out c.put-2.ensures.out)

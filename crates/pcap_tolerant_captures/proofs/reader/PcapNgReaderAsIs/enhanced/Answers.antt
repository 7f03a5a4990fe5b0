use Rattle.std.proofs.Common.{rules}
use Rattle.std.proofs.lemmas.Result.{err_from_is_err_and}
use Rattle.pcap_tolerant_captures.proofs.reader.PcapNgReaderAsIs.enhanced.Goals as goal

pub returns-in_err-_rest-clause-memory : goal.returns-in_err-_rest-clause-memory
returns-in_err-_rest-clause-memory g c =
    let p = err_from_is_err_and c.from_residual.result c.from_residual.ensures.1 in
    rw p.1 (search rules, rw c.body.ensures at c.in_err-_rest.ensures.memory)

pub returns-clause-body : goal.returns-clause-body
returns-clause-body g c = (search rules, (c.in_ok-_rest._rest.now, rw c.body.ensures at c.in_ok-_rest.ensures.read))

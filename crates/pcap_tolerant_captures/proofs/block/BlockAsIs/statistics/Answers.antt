use Rattle.std.proofs.Common.{rules}
use Rattle.std.proofs.lemmas.Result.{err_from_is_err_and}
use Rattle.pcap_tolerant_captures.proofs.block.BlockAsIs.statistics.Goals as goal

pub returns-in_err-_rest-clause-memory : goal.returns-in_err-_rest-clause-memory
returns-in_err-_rest-clause-memory c =
    let p = err_from_is_err_and c.from_residual.result c.from_residual.ensures.1 in
    rw p.1 (search rules, rw (c.endianness.ensures, c.as_slice.ensures) at c.in_err-_rest.ensures.memory)

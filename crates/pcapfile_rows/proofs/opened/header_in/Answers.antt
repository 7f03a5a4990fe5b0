use Rattle.std.proofs.Common.{arith}
use Rattle.pcapfile_rows.proofs.Headers.{header_alone}
use Rattle.pcapfile_rows.proofs.opened.header_in.Goals as goal

pub returns : goal.returns
returns c = header_alone c.in_ok-_rest.header c.args.bytes.now c.min.result c.in_ok-_rest._rest.now (omega (arith, c.min.ensures)) (omega (arith, c.min.ensures)) c.in_ok-_rest.ensures.tells

use Rattle.std.proofs.Common.{arith}
use Rattle.pcap_program.proofs.Digits.{nine_long}
use Rattle.capcopy_run.proofs.line.put_seconds.Goals as goal

pub returns-clause-text : goal.returns-clause-text
returns-clause-text c = rw (← nine_long c.args.seconds (omega arith) (omega arith)) c.put_nine_digits.ensures.text

use Rattle.std.proofs.Common.{refl}
use Rattle.pcapfile_info.proofs.Informing.{packets_refused, packets_informed}
use Rattle.pcapfile_info.proofs.captures.inform_packets.Goals as goal

pub returns-in-Err-clause-informs : goal.returns-in-Err-clause-informs
returns-in-Err-clause-informs g c =
    packets_refused (g.R.Read.remaining c.args.input) (g.R.Read.remaining c.read_header.new.reader) c.read_header.new.has_failed c.in-Err.error c.end_of-end.result c.in_ok-totals.totals c.in_ok-totals.ensures c.in-Err.ensures c.end_of-end.ensures

pub tell_packets-fault-requires-clause-valid : goal.tell_packets-fault-requires-clause-valid
tell_packets-fault-requires-clause-valid g c = c.in-Ok.ensures.1.1.valid

pub returns-clause-informs : goal.returns-clause-informs
returns-clause-informs g c =
    packets_informed c.in-Ok.header (g.R.Read.remaining c.args.input) (g.R.Read.remaining c.read_header.new.reader) (g.R.Read.remaining c.tell_packets-fault.new.input) c.tell_packets-fault.new.read_failed _ c.tell_packets-fault.new.progress
    c.tell_packets-fault.result c.end_of-end-2.result refl refl c.in-Ok.ensures.1 c.tell_packets-fault.ensures.tells c.end_of-end-2.ensures

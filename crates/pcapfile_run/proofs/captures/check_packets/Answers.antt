use Rattle.pcapfile_run.proofs.Told.{packets_refused, packets_passed}
use Rattle.pcapfile_run.proofs.captures.check_packets.Goals as goal

pub returns-in-Err : goal.returns-in-Err
returns-in-Err g c =
    packets_refused (g.R.Read.remaining c.args.input) (g.R.Read.remaining c.read_header.new.reader) c.read_header.new.has_failed c.in-Err.error c.end_of.result c.in-Err.ensures c.end_of.ensures

pub returns : goal.returns
returns g c =
    packets_passed c.in-Ok.header (g.R.Read.remaining c.args.input) (g.R.Read.remaining c.read_header.new.reader) (g.R.Read.remaining c.count_packets-fault.new.input) c.count_packets-fault.new.walked.read_failed
    c.count_packets-fault.new.walked.items c.count_packets-fault.new.counting.bytes c.count_packets-fault.result c.end_of-end.result c.in-Ok.ensures.1 c.count_packets-fault.ensures.counts c.end_of-end.ensures

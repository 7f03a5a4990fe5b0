use Rattle.std.proofs.Common.{refl}
use Rattle.pcap_classic.proofs.Captures.{capture_read, capture_taken, packets_given}
use Rattle.pcap_classic.proofs.run.read_pcap.Goals as goal

pub returns-clause-taken : goal.returns-clause-taken
returns-clause-taken g c =
    let run = c.read_items-packets in
    capture_taken g.R.Read.remaining c.args.most c.args.reader c.in_ok-reader.reader run.new.reader c.in_ok-reader.ensures _ run.ensures refl c.failed.ensures

pub returns-clause-front : goal.returns-clause-front
returns-clause-front g c = capture_read (g.R.Read.remaining c.args.reader) c.args.most _ (returns-clause-taken g c)

pub returns-clause-owned : goal.returns-clause-owned
returns-clause-owned g c =
    let run = c.read_items-packets in
    (packets_given g.R.Read.remaining c.args.most c.args.reader c.in_ok-reader.reader run.new.reader c.in_ok-reader.ensures run.result.0.items run.result.1 run.ensures).2

use Rattle.pcap_ng.proofs.ReadBlocks.{blocks_given, blocks_taken, front_read}
use Rattle.pcap_ng.proofs.run.read_pcapng.Goals as goal

pub returns-clause-taken : goal.returns-clause-taken
returns-clause-taken g c = blocks_taken g.R.Read.remaining c.args.most c.args.reader c.in_ok-reader.reader c.in_ok-reader.ensures _ c.read_items-blocks.ensures

pub returns-clause-front : goal.returns-clause-front
returns-clause-front g c = front_read g.R.Read.remaining (g.R.Read.remaining c.args.reader) c.args.most _ (returns-clause-taken g c)

pub returns-clause-goes_on : goal.returns-clause-goes_on
returns-clause-goes_on g c =
    let run = c.read_items-blocks in
    (blocks_given g.R.Read.remaining c.args.most c.args.reader c.in_ok-reader.reader c.in_ok-reader.ensures run.new.reader run.result.0.items run.result.1 run.ensures).1

pub returns-clause-owned : goal.returns-clause-owned
returns-clause-owned g c =
    let run = c.read_items-blocks in
    (blocks_given g.R.Read.remaining c.args.most c.args.reader c.in_ok-reader.reader c.in_ok-reader.ensures run.new.reader run.result.0.items run.result.1 run.ensures).2

use Rattle.std.proofs.Common.{None, Some}
use Rattle.pcapfile_merge.specs.Buffered.{header_of, left_of}
use Rattle.pcapfile_merge.proofs.Given.{packet_there, pending_ready}
use Rattle.pcapfile_merge.proofs.reader.take_packet_there.Goals as goal

pub returns-clause-there : goal.returns-clause-there
returns-clause-there g c =
    let given = c.in_ok-header.ensures in
    packet_there g.R.Read.remaining c.args.number c.args.reader.now c.next_there.new.self c.in_ok-header.header c.pending_of_header.result c.requires given.header given.there c.pending_of_header.ensures.is

pub returns-clause-few : goal.returns-clause-few
returns-clause-few g c =
    let old = c.args.reader.now in
    let there = returns-clause-there g c in
    let ready = pending_ready g.R.Read.remaining c.args.number (header_of old) (left_of g.R.Read.remaining old) c.next_there.new.self (Some c.pending_of_header.result) None there.1 in
    ready.1

use Rattle.pcapfile_merge.specs.Buffered.{has_failed, header_of, left_of}
use Rattle.pcapfile_merge.proofs.Lying.{shown_given}
use Rattle.pcapfile_merge.proofs.buffered.BufferedPackets.next_there.Goals as goal

pub returns-clause-there : goal.returns-clause-there
returns-clause-there g c =
    let old = c.args.self.now in
    let mid = c.let_go.new.self in
    let gone = c.let_go.ensures in
    shown_given g.R.Read.remaining (header_of old) (left_of g.R.Read.remaining old) old.reader.is_done (has_failed old) mid.shown mid.reader c.in_ok-header.header c.in_ok-header.used gone.nothing gone.left gone.header gone.done c.requires c.in_ok-header.ensures

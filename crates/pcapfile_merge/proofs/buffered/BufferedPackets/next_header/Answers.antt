use Rattle.pcapfile_merge.specs.Buffered.{has_failed, header_of, left_of}
use Rattle.pcapfile_merge.proofs.Lying.{held_given}
use Rattle.pcapfile_merge.proofs.buffered.BufferedPackets.next_header.Goals as goal

pub returns-in-None-clause-next : goal.returns-in-None-clause-next
returns-in-None-clause-next g c =
    let old = c.args.self.now in
    let mid = c.next_there.new.self in
    let stays = c.in-None.ensures.there in
    held_given g.R.Read.remaining (header_of old) (left_of g.R.Read.remaining old) old.reader.is_done (has_failed old) mid.shown mid.reader c.next_header.new.self c.next_header.result stays.0 stays.1 c.in-None.ensures.header stays.2 c.in-None.ensures.failed c.next_header.ensures.next

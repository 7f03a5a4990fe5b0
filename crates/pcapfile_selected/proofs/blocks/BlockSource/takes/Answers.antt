use Rattle.std.proofs.Common.{map, rules}
use Rattle.pcap_blocks.specs.InterfaceDescription.{interface_of}
use Rattle.pcap_ng.specs.Frames.{framed_of}
use Rattle.pcapfile_cut.specs.BlockCuts.{lent_by}
use Rattle.pcapfile_selected.proofs.Spanning.{lent_time, takes_lent}
use Rattle.pcapfile_selected.proofs.blocks.BlockSource.takes.Goals as goal

pub returns-clause-takes : goal.returns-clause-takes
returns-clause-takes g c =
    let block = lent_by c.args.self.now.blocks c.args.header in
    let timed = lent_time block (map interface_of c.interfaces.result.now) (framed_of c.block.result) c.in_ok-time.time (search rules) (search rules) c.in_ok-time.ensures.time in
    takes_lent c.args.spans.now c.takes.new.self block c.in_ok-time.time c.takes.result (search rules) timed c.takes.ensures.takes c.takes.ensures.next

use Rattle.std.proofs.Common.{map, rules}
use Rattle.pcap_blocks.specs.InterfaceDescription.{interface_of}
use Rattle.pcap_ng.specs.Frames.{framed_of}
use Rattle.pcapfile_cut.specs.BlockCuts.{lent_by}
use Rattle.pcapfile_selected.proofs.Spanning.{notes_found}
use Rattle.pcapfile_selected.proofs.blocks.BlockSource.note_passed.Goals as goal

pub returns-clause-first : goal.returns-clause-first
returns-clause-first g c = notes_found c.note_first.result c.args.choosing.now.asked (lent_by c.args.self.now.blocks c.args.header)
    (map interface_of c.lent_block.result.interfaces.now) (framed_of c.lent_block.result.block.now)
    c.args.choosing.now.first c.note_first.new.self.first (search rules) (search rules) (search rules) c.note_first.ensures.finds

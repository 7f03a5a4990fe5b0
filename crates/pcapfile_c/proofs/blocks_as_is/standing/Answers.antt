use Rattle.pcap_ng.specs.Frames.{framed_of}
use Rattle.pcapfile_c.proofs.Standing.{section_stands}
use Rattle.pcapfile_c.proofs.blocks_as_is.standing.Goals as goal

pub returns-in_ok-opened-in-SectionHeader : goal.returns-in_ok-opened-in-SectionHeader
returns-in_ok-opened-in-SectionHeader c q shows =
    let found = c.in_ok-opened-in-SectionHeader in
    section_stands q (framed_of c.args.block) c.new-lent.result c.nothing.result found.opened found.flaws c.in-SectionHeader.is c.new-lent.ensures c.nothing.ensures found.ensures

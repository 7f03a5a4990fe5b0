use Rattle.pcapfile_mended.proofs.BodiesSaid.{stated_told}
use Rattle.pcapfile_mended.proofs.mending.states_length.Goals as goal

pub returns-in-SectionHeader : goal.returns-in-SectionHeader
returns-in-SectionHeader c = stated_told c.args.block.type_ c.args.block.body.now c.as_slice.result.now c.ne.result c.in-SectionHeader.is (c.requires c.in-SectionHeader.is) c.as_slice.ensures c.ne.ensures

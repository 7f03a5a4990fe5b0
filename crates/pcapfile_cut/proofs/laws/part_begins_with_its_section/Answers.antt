use Rattle.pcapfile_cut.proofs.Repeating.{begins}
use Rattle.pcapfile_cut.proofs.laws.part_begins_with_its_section.Goals as goal

pub returns : goal.returns
returns c = begins

use Rattle.pcapfile_merge.proofs.SectionOptions.{same_is_equal}
use Rattle.pcapfile_merge.proofs.laws.same_values_are_equal.Goals as goal

pub returns : goal.returns
returns c = same_is_equal

use Rattle.std.proofs.Common.{rules}
use Rattle.std.specs.Int.{w64}
use Rattle.std.proofs.lemmas.Int.{to_z-of_z}
use Rattle.pcapfile_sort.proofs.BlockRanks.{offset_biased}
use Rattle.pcapfile_sort.proofs.blocks.biased.Goals as goal

pub returns : goal.returns
returns c = offset_biased c.args.offset _ c.abs_diff.result (search rules) (to_z-of_z w64 c.args.offset (search rules)) c.abs_diff.ensures

use Rattle.pcapfile_merge.specs.Packets.{IsEarlier}
use Rattle.pcapfile_merge.proofs.MergeLaws.{merges_sorted}
use Rattle.pcapfile_merge.proofs.Times.{before_asymmetric}
use Rattle.pcapfile_merge.proofs.laws.merges_of_sorted_inputs_are_sorted.Goals as goal

pub returns : goal.returns
returns c = λ inputs out left sorted merges. merges_sorted IsEarlier (λ a b. before_asymmetric a.time b.time) inputs out left sorted merges

use Rattle.pcapfile_merge.specs.declared.choice.PacketOrder.TheVariants.{ByFile}
use Rattle.pcapfile_merge.specs.Packets.{IsEarlierIn}
use Rattle.pcapfile_merge.proofs.MergeLaws.{merges_in_a_row}
use Rattle.pcapfile_merge.proofs.laws.merges_by_file_are_in_a_row.Goals as goal

pub returns : goal.returns
returns c = λ inputs out left merges. merges_in_a_row (IsEarlierIn ByFile) (λ a b earlier. earlier) inputs out left merges

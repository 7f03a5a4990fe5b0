use Rattle.pcapfile_merge.specs.Packets.{IsEarlierIn}
use Rattle.pcapfile_merge.proofs.MergeLaws.{merges_keep}
use Rattle.pcapfile_merge.proofs.laws.merges_keep_each_input.Goals as goal

pub returns : goal.returns
returns c = λ order place inputs out left merges. merges_keep (IsEarlierIn order) place inputs out left merges

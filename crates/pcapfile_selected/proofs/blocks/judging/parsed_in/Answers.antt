use Rattle.std.proofs.Common.{rules}
use Rattle.pcapfile_selected.proofs.blocks.judging.parsed_in.Goals as goal
use Rattle.pcapfile_selected.proofs.blocks.judging.parsed_in.Goals.{in-Err-this-4+in-FromUtf8Error-1, in-Err-this-4+in-IncompleteBuffer-1, in-Ok-2}

pub returns : goal.returns
returns c = elim c.match-this-4.branch [
  | in-Err-this-4+in-FromUtf8Error-1 w ↦ search rules
  | in-Err-this-4+in-IncompleteBuffer-1 w ↦ search rules
  | in-Ok-2 w ↦ search rules
]

use Rattle.std.proofs.Common.{◌≡◌, ◌++◌, map, take}
use Rattle.std.specs.String.{string_bytes}
use Rattle.pcapfile_info.specs.Describing.{comments_among}
use Rattle.pcapfile_info.proofs.described.push_comments_among.Given as goal

abbrev pub invariant-loop-option : goal.invariant-loop-option
invariant-loop-option g l = map string_bytes l.comments.items ≡ map string_bytes l.fn.comments.items ++ comments_among (map g.O.Commenting.entry (take l.option-index l.options))

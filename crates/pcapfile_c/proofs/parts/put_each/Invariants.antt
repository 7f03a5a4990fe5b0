use Rattle.std.proofs.Common.{◌≡◌, ◌+◌, length, take}
use Rattle.pcapfile_values.specs.BlockTexts.{PutsAt}
use Rattle.pcapfile_c.specs.PutParts.{each_bytes}
use Rattle.pcapfile_c.proofs.parts.put_each.Given as goal

abbrev pub invariant-loop-option : goal.invariant-loop-option
invariant-loop-option g l = record {
  behind : l.behind ≡ l.at + length (each_bytes g.B.ByteOrder.bytes_of (take l.option-index l.options));
  put : PutsAt l.at (each_bytes g.B.ByteOrder.bytes_of (take l.option-index l.options)) l.fn.room l.room;
}

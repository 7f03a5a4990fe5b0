use Rattle.std.proofs.Common.{◌≡◌, ◌≤◌, ◌+◌, length, take}
use Rattle.std.specs.Prelude.{All}
use Rattle.pcapfile_c.specs.PutParts.{IsListed, each_bytes}
use Rattle.pcapfile_c.proofs.parts.measure.Given as goal

abbrev pub invariant-loop-option : goal.invariant-loop-option
invariant-loop-option g l = record {
  len : l.len ≡ length (each_bytes g.B.ByteOrder.bytes_of (take l.option-index l.options)) + 4;
  short : l.len ≤ 4294967283;
  listed : All (IsListed l.clocked) (take l.option-index l.options);
}

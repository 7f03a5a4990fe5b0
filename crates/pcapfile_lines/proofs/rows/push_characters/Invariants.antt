use Rattle.std.proofs.Common.{◌≡◌, ◌+◌, ◌++◌, map, take}
use Rattle.arrayvec.specs.ArrayVec.{array_vec_len}
use Rattle.pcapfile_lines.specs.Rows.{character_of}
use Rattle.pcapfile_lines.proofs.rows.push_characters.Given as goal

abbrev pub invariant-loop-byte : goal.invariant-loop-byte
invariant-loop-byte l =
    record {
      items : l.row.items ≡ l.fn.row.items ++ map character_of (take l.byte-index l.bytes);
      long : array_vec_len l.row ≡ array_vec_len l.fn.row + l.byte-index;
    }

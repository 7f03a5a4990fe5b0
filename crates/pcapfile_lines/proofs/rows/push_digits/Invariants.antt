use Rattle.std.proofs.Common.{◌≡◌, ◌+◌, ◌*◌, ◌++◌, flat_map, take}
use Rattle.arrayvec.specs.ArrayVec.{array_vec_len}
use Rattle.pcapfile_lines.specs.Rows.{byte_text}
use Rattle.pcapfile_lines.proofs.rows.push_digits.Given as goal

abbrev pub invariant-loop-byte : goal.invariant-loop-byte
invariant-loop-byte l =
    record {
      items : l.row.items ≡ l.fn.row.items ++ flat_map byte_text (take l.byte-index l.bytes);
      long : array_vec_len l.row ≡ array_vec_len l.fn.row + 3 * l.byte-index;
    }

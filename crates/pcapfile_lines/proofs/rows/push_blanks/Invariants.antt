use Rattle.std.proofs.Common.{◌≡◌, ◌+◌, ◌++◌, replicate}
use Rattle.arrayvec.specs.ArrayVec.{array_vec_len}
use Rattle.pcapfile_lines.proofs.rows.push_blanks.Given as goal

abbrev pub invariant-loop-blank : goal.invariant-loop-blank
invariant-loop-blank l =
    record {
      items : l.row.items ≡ l.fn.row.items ++ replicate l._blank 32;
      long : array_vec_len l.row ≡ array_vec_len l.fn.row + l._blank;
    }

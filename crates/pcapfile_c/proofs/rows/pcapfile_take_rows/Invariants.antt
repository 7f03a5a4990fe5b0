use Rattle.std.proofs.Common.{◌≡◌, ◌≤◌, ◌-◌, length, take, drop}
use Rattle.pcap_items.specs.Format.{Texts}
use Rattle.pcapfile_c.specs.Rows.{row_format}
use Rattle.pcapfile_c.proofs.rows.pcapfile_take_rows.Given as goal

abbrev pub invariant-loop-taken : goal.invariant-loop-taken
invariant-loop-taken l = record {
  within : l.taken ≤ length l.rows;
  all : l.all ≡ l.initial.left.bytes.now;
  shorter : length l.left.bytes.now ≤ length l.all;
  texts : Texts (row_format l.header (length l.initial.left.bytes.now)) tt (take l.taken l.rows) l.initial.left.bytes.now l.left.bytes.now;
  others : drop l.taken l.rows ≡ drop l.taken l.initial.rows;
  error : l.error ≡ l.initial.error;
}

abbrev pub decreases-loop-taken : goal.decreases-loop-taken
decreases-loop-taken l = length l.rows - l.taken

use Rattle.std.proofs.Common.{◌≡◌, ◌≤◌, List, Option, length, take, drop}
use Rattle.pcap_items.specs.Format.{Texts}
use Rattle.pcapfile_c.specs.declared.rows.PcapfileNgRow.{PcapfileNgRow}
use Rattle.pcapfile_c.specs.Batches.{somes, EndsWithPacket}
use Rattle.pcapfile_c.specs.Rows.{ng_row_format}
use Rattle.pcapfile_c.proofs.rows.pcapfile_take_ng_rows.Given as goal

abbrev pub invariant-loop-taken : goal.invariant-loop-taken
invariant-loop-taken l = record {
  within : l.taken ≤ length l.rows;
  total : l.total ≡ length l.initial.left.bytes.now;
  shorter : length l.left.bytes.now ≤ l.total;
  passed : (found : List (Option PcapfileNgRow)) × Texts (ng_row_format (length l.initial.left.bytes.now)) l.order found l.initial.left.bytes.now l.left.bytes.now × (take l.taken l.rows ≡ somes found) × (l.taken ≡ length l.rows → EndsWithPacket found);
  others : drop l.taken l.rows ≡ drop l.taken l.initial.rows;
  error : l.error ≡ l.initial.error;
}

abbrev pub decreases-loop-taken : goal.decreases-loop-taken
decreases-loop-taken l = length l.left.bytes.now

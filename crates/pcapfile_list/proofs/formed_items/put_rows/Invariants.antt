use Rattle.pcap_items.specs.Writing.{Writes}
use Rattle.pcapfile_lines.specs.Rows.{rows_text}
use Rattle.pcapfile_list.proofs.FormedItems.{rows_from}
use Rattle.pcapfile_list.proofs.formed_items.put_rows.Given as goal

abbrev pub invariant-loop-number : goal.invariant-loop-number
invariant-loop-number g l = Writes (rows_text l.bytes) (rows_from l.bytes l.number) (g.W.Write.contents l.fn.output) (g.W.Write.contents l.output)

use Rattle.std.proofs.Common.{◌≤◌, length, map, All}
use Rattle.pcap_items.specs.Items.{LeadsTo}
use Rattle.pcap_items.proofs.run.items.parse_items.Given as goal

abbrev pub invariant-loop-left : goal.invariant-loop-left
invariant-loop-left g l =
    let p = g.P.Items in
    record {
      leads : LeadsTo p.format p.part (p.state l.fn.parser) (p.state l.parser) (map p.view l.items.items) l.bytes l.left;
      lent : All p.lent l.items.items;
      shorter : length l.left ≤ length l.bytes;
    }

abbrev pub decreases-loop-left : goal.decreases-loop-left
decreases-loop-left g l = length l.left

use Rattle.std.proofs.Common.{◌≤◌, ◌-◌, length, drop, map, All}
use Rattle.pcap_items.proofs.Pieces.{ReachesOn}
use Rattle.pcap_items.proofs.run.pieces.take_items.Given as goal

abbrev pub invariant-loop-after : goal.invariant-loop-after
invariant-loop-after g l =
    let p = g.P.PieceParser in
    record {
      within : l.at ≤ length l.held.items;
      reached : ReachesOn p.opens p.format p.part (p.state l.fn.parser) (map p.view l.fn.items.items) l.fn.held.items (p.state l.parser) (map p.view l.items.items) (drop l.at l.held.items);
      owned : All p.owned l.fn.items.items → All p.owned l.items.items;
    }

abbrev pub decreases-loop-after : goal.decreases-loop-after
decreases-loop-after g l = length l.held.items - l.at

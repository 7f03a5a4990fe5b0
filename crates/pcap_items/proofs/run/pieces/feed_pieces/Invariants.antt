use Rattle.std.proofs.Common.{◌≡◌, ◌≤◌, ◌-◌, [], length, take, map, All}
use Rattle.std.specs.Vec.{vec_capacity}
use Rattle.pcap_items.specs.Pieces.{AfterEach, HoldsItems, joined_pieces}
use Rattle.pcap_items.specs.Waiting.{IsWaiting, progress_with}
use Rattle.pcap_items.proofs.run.pieces.feed_pieces.Given as goal

abbrev pub invariant-loop-alloc : goal.invariant-loop-alloc
invariant-loop-alloc g l =
    let p = g.P.PieceParser in
    let fed = take (length l.numbers.items) l.pieces in
    record {
      waiting : IsWaiting (p.opens l.setting) p.format p.part p.state (joined_pieces fed) (progress_with l.progress l.missing) l.held.items (map p.view l.items.items);
      numbers : AfterEach (HoldsItems (p.opens l.setting) p.format) [] fed l.numbers.items;
      within : length l.numbers.items ≤ length l.pieces;
      places : length l.pieces ≤ vec_capacity l.numbers;
      total : l.total ≡ length (joined_pieces fed);
      owned : All p.owned l.items.items;
    }

abbrev pub decreases-loop-alloc : goal.decreases-loop-alloc
decreases-loop-alloc g l = length l.pieces - length l.numbers.items

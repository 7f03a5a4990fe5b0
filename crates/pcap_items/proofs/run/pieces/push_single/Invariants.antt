use Rattle.std.proofs.Common.{◌≡◌, ◌≤◌, ◌+◌, ◌-◌, ◌++◌, length, take, All}
use Rattle.std.specs.Prelude.{replicate}
use Rattle.std.specs.Vec.{vec_capacity, vec_len}
use Rattle.pcap_items.specs.Pieces.{joined_pieces}
use Rattle.pcap_items.proofs.run.pieces.push_single.Given as goal

abbrev pub invariant-loop-count : goal.invariant-loop-count
invariant-loop-count l =
    record {
      held : l.held.items ≡ l.fn.held.items ++ joined_pieces (take l.count l.pieces);
      numbers : l.numbers.items ≡ l.fn.numbers.items ++ replicate l.count l.number;
      held_len : vec_len l.held ≡ vec_len l.fn.held + l.count;
      numbers_len : vec_len l.numbers ≡ vec_len l.fn.numbers + l.count;
      room : vec_capacity l.held ≡ vec_capacity l.fn.held;
      places : vec_capacity l.numbers ≡ vec_capacity l.fn.numbers;
      single : All (λ piece. length piece.now ≡ 1) (take l.count l.pieces);
      within : l.count ≤ length l.pieces;
    }

abbrev pub decreases-loop-count : goal.decreases-loop-count
decreases-loop-count l = length l.pieces - l.count

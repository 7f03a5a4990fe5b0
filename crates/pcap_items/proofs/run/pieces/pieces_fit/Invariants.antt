use Rattle.std.proofs.Common.{◌≡◌, ◌<◌, length, take}
use Rattle.pcap_items.specs.Pieces.{joined_pieces}
use Rattle.pcap_items.proofs.run.pieces.pieces_fit.Given as goal

abbrev pub invariant-loop-piece : goal.invariant-loop-piece
invariant-loop-piece l = record {
  total : l.total ≡ length (joined_pieces (take l.piece-index l.pieces));
  fits : l.total < 18446744073709551616;
}

use Rattle.std.proofs.Common.{◌≡◌, ◌++◌, ℕ, List, length}
use Rattle.pcap_altered.specs.LineEnds.{undone, held_in}
use Rattle.pcap_altered.proofs.line_ends.LineEnds.put.Given as goal

abbrev pub invariant-loop-byte : goal.invariant-loop-byte
invariant-loop-byte l =
    (next : List ℕ) → l.fn.room.items ++ undone (held_in l.fn.self ++ (l.piece ++ next)) ≡ l.room.items ++ undone (held_in l.self ++ (l.left ++ next))

abbrev pub decreases-loop-byte : goal.decreases-loop-byte
decreases-loop-byte l = length l.left

use Rattle.std.proofs.Common.{◌≡◌, false, length}
use Rattle.pcap_altered.proofs.Transfers.{each_after}
use Rattle.pcap_altered.proofs.line_ends.is_transferred.Given as goal

abbrev pub invariant-loop-byte : goal.invariant-loop-byte
invariant-loop-byte l = each_after false l.bytes ≡ each_after l.is_after l.left

abbrev pub decreases-loop-byte : goal.decreases-loop-byte
decreases-loop-byte l = length l.left

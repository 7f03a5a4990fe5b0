use Rattle.std.proofs.Common.{◌≡◌, ℕ, List, ◌++◌, length, drop}
use Rattle.pcap_ng.specs.Parser.{state_of}
use Rattle.pcap_parts.specs.Resume.{IsFed, from_places}
use Rattle.pcap_parts.proofs.again.resume.Given as goal

abbrev pub invariant-loop-place : goal.invariant-loop-place
invariant-loop-place l = record {
  done : List ℕ;
  split : l.interfaces ≡ done ++ l.left;
  fed : IsFed (drop l.header l.bytes) (from_places l.bytes done) (state_of l.parser);
}

abbrev pub decreases-loop-place : goal.decreases-loop-place
decreases-loop-place l = length l.left

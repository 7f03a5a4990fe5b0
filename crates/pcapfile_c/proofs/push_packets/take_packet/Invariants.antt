use Rattle.std.proofs.Common.{◌≡◌, ◌≤◌, length}
use Rattle.pcap_ng.specs.State.{State}
use Rattle.pcapfile_c.specs.PushPackets.{HaveBases, OthersStay, ShowsInForce}
use Rattle.pcapfile_c.proofs.Passing.{PutsBlocks}
use Rattle.pcapfile_c.proofs.push_packets.take_packet.Given as goal

abbrev pub invariant-loop-status : goal.invariant-loop-status
invariant-loop-status l = record {
  passed : (q : State) → ShowsInForce l.initial.section l.initial.interfaces q
      → (x : PutsBlocks q l.section l.interfaces l.initial.left.bytes.now l.left.bytes.now) × (l.packet ≡ l.initial.packet) × (l.error ≡ l.initial.error)
      × OthersStay x.0 l.initial.interfaces l.interfaces;
  bases : HaveBases l.initial.section l.initial.interfaces → HaveBases l.section l.interfaces;
  fewer : length l.left.bytes.now ≤ length l.initial.left.bytes.now;
}

abbrev pub decreases-loop-status : goal.decreases-loop-status
decreases-loop-status l = length l.left.bytes.now

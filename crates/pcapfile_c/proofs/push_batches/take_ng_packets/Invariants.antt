use Rattle.std.proofs.Common.{◌≡◌, ◌≤◌, ◌-◌, length, take, drop}
use Rattle.pcap_ng.specs.State.{State}
use Rattle.pcapfile_c.specs.PushNgBatches.{PacketIsLast}
use Rattle.pcapfile_c.specs.PushPackets.{HaveBases, LeavesOthers, ShowsInForce}
use Rattle.pcapfile_c.proofs.PacketsCome.{PacketsCome}
use Rattle.pcapfile_c.proofs.push_batches.take_ng_packets.Given as goal

abbrev pub invariant-loop-taken : goal.invariant-loop-taken
invariant-loop-taken l = record {
  within : l.taken ≤ length l.packets;
  passed : (q : State) → ShowsInForce l.initial.section l.initial.interfaces q
      → (x : PacketsCome q l.initial.left.bytes.now l.section l.interfaces l.left.bytes.now (take l.taken l.packets)) × PacketIsLast x.0 × (l.error ≡ l.initial.error);
  bases : HaveBases l.initial.section l.initial.interfaces → HaveBases l.section l.interfaces;
  leaves : (q : State) → ShowsInForce l.initial.section l.initial.interfaces q → LeavesOthers q l.section l.initial.interfaces l.interfaces l.initial.left.bytes.now l.left.bytes.now;
  others : drop l.taken l.packets ≡ drop l.taken l.initial.packets;
  fewer : length l.left.bytes.now ≤ length l.initial.left.bytes.now;
}

abbrev pub decreases-loop-taken : goal.decreases-loop-taken
decreases-loop-taken l = length l.packets - l.taken

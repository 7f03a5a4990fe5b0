-- The order of times.
use Rattle.std.proofs.Common.{Option, None, Some, arith}
use Rattle.std.proofs.lemmas.Int.{ints}
use Rattle.pcap_times.specs.declared.clock.Timestamp.{Timestamp}
use Rattle.pcapfile_merge.specs.declared.choice.PacketOrder.{PacketOrder}
use Rattle.pcapfile_merge.specs.declared.choice.PacketOrder.TheVariants.{ByTime, ByFile}
use Rattle.pcapfile_run.specs.BlockPackets.{IsBefore, IsTimeBefore}
use Rattle.pcapfile_merge.specs.Packets.{IsBeforeIn}

time_transitive : (a b c : Timestamp) → IsTimeBefore a b → IsTimeBefore b c → IsTimeBefore a c
time_transitive a b c p q = grind (arith, ints)

time_through : (a b c : Timestamp) → IsTimeBefore a b → (IsTimeBefore c b → ⊥) → IsTimeBefore a c
time_through a b c p q = grind (arith, ints)

pub before_transitive : (a b c : Option Timestamp) → IsBefore a b → IsBefore b c → IsBefore a c
before_transitive None None c p q = absurd p
before_transitive None (Some b) None p q = absurd q
before_transitive None (Some b) (Some c) p q = tt
before_transitive (Some a) None c p q = absurd p
before_transitive (Some a) (Some b) None p q = absurd q
before_transitive (Some a) (Some b) (Some c) p q = time_transitive a b c p q

pub before_through : (a b c : Option Timestamp) → IsBefore a b → (IsBefore c b → ⊥) → IsBefore a c
before_through None None c p q = absurd p
before_through None (Some b) None p q = absurd (q tt)
before_through None (Some b) (Some c) p q = tt
before_through (Some a) None c p q = absurd p
before_through (Some a) (Some b) None p q = absurd (q tt)
before_through (Some a) (Some b) (Some c) p q = time_through a b c p q

pub in_transitive : (order : PacketOrder) (a b c : Option Timestamp) → IsBeforeIn order a b → IsBeforeIn order b c → IsBeforeIn order a c
in_transitive ByTime a b c p q = before_transitive a b c p q
in_transitive ByFile a b c p q = p

pub in_through : (order : PacketOrder) (a b c : Option Timestamp) → IsBeforeIn order a b → (IsBeforeIn order c b → ⊥) → IsBeforeIn order a c
in_through ByTime a b c p q = before_through a b c p q
in_through ByFile a b c p q = p

time_asymmetric : (a b : Timestamp) → IsTimeBefore a b → IsTimeBefore b a → ⊥
time_asymmetric a b p q = grind (arith, ints)

pub before_asymmetric : (a b : Option Timestamp) → IsBefore a b → IsBefore b a → ⊥
before_asymmetric None None p q = p
before_asymmetric None (Some b) p q = q
before_asymmetric (Some a) None p q = p
before_asymmetric (Some a) (Some b) p q = time_asymmetric a b p q

use Rattle.std.proofs.Common.{length}
use Rattle.pcap_ng.proofs.Stretched.{Tearing}
use Rattle.pcap_ng.proofs.pcapng.stretch.torn_block.Given as goal

abbrev pub invariant-loop-after : goal.invariant-loop-after
invariant-loop-after l = record { so_far : Tearing l.order l.stretch l.rest l.gone l.blocks }

abbrev pub decreases-loop-after : goal.decreases-loop-after
decreases-loop-after l = length l.rest

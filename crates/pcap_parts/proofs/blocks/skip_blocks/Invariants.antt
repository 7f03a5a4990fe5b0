use Rattle.std.proofs.Common.{length}
use Rattle.pcap_ng.specs.Blocks.{block_format}
use Rattle.pcap_ng.specs.Parser.{state_of}
use Rattle.pcap_parts.proofs.Passing.{Passing}
use Rattle.pcap_parts.proofs.blocks.skip_blocks.Given as goal

abbrev pub invariant-loop-after : goal.invariant-loop-after
invariant-loop-after l = record { passing : Passing block_format (state_of l.fn.parser) (state_of l.parser) l.slice l.after l.at_least l.items }

abbrev pub decreases-loop-after : goal.decreases-loop-after
decreases-loop-after l = length l.after

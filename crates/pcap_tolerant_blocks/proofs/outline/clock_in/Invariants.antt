use Rattle.std.proofs.Common.{List, length}
use Rattle.pcap_options.specs.InterfaceOption.{interface_description}
use Rattle.pcap_options.specs.Values.{Entry}
use Rattle.pcap_tolerant_blocks.specs.Flaws.{Said}
use Rattle.pcap_tolerant_blocks.specs.Outline.{IsClockIn}
use Rattle.pcap_tolerant_blocks.proofs.Lists.{ReadSoFar}
use Rattle.pcap_tolerant_blocks.proofs.outline.clock_in.Given as goal

abbrev pub invariant-loop-left : goal.invariant-loop-left
invariant-loop-left g l = (options : List Entry) × (flaws : List Said) × ReadSoFar g.B.ByteOrder.number_of interface_description options flaws l.fn.options l.left × IsClockIn options l.clock

abbrev pub decreases-loop-left : goal.decreases-loop-left
decreases-loop-left g l = length l.left

use Rattle.std.proofs.Common.{ℕ, List, length}
use Rattle.pcap_core.specs.Padded.{Chain}
use Rattle.pcap_options.specs.Names.{NameText}
use Rattle.pcapfile_c.proofs.records.read_names.Given as goal

abbrev pub invariant-loop-left : goal.invariant-loop-left
invariant-loop-left l = (names : List (List ℕ)) × Chain NameText names l.fn.names l.left

abbrev pub decreases-loop-left : goal.decreases-loop-left
decreases-loop-left l = length l.left

use Rattle.std.proofs.Common.{All, length, map}
use Rattle.pcap_core.specs.Padded.{Chain}
use Rattle.pcap_options.specs.Options.{OptionText}
use Rattle.pcap_options.specs.CommonOptions.{UnknownIsBorrowed, unknown_entry}
use Rattle.pcap_raw_options.specs.UpTo.{no_kind}
use Rattle.pcap_raw_options.proofs.raw.raw_options.Given as goal

abbrev pub invariant-loop-left : goal.invariant-loop-left
invariant-loop-left g l = record {
  read : Chain (OptionText g.B.ByteOrder.number_of no_kind) (map unknown_entry l.options.items) l.fn.slice l.left;
  borrowed : All UnknownIsBorrowed l.options.items;
}

abbrev pub decreases-loop-left : goal.decreases-loop-left
decreases-loop-left g l = length l.left

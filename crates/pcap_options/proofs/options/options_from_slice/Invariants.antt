use Rattle.std.proofs.Common.{length, map, All}
use Rattle.pcap_core.specs.Padded.{Chain}
use Rattle.pcap_options.specs.Options.{OptionText}
use Rattle.pcap_options.proofs.options.options_from_slice.Given as goal

abbrev pub invariant-loop-alloc : goal.invariant-loop-alloc
invariant-loop-alloc g l = record {
  so_far : Chain (OptionText g.B.ByteOrder.number_of g.O.PcapNgOption.kind) (map g.O.HoldsEntry.entry l.options.items) l.fn.slice l.rest;
  borrowed : All g.O.PcapNgOption.is_borrowed l.options.items;
}

abbrev pub decreases-loop-alloc : goal.decreases-loop-alloc
decreases-loop-alloc g l = length l.rest

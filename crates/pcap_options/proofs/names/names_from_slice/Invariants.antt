use Rattle.std.proofs.Common.{length, map, All}
use Rattle.std.specs.Cow.{cow_str_bytes, IsBorrowedStr}
use Rattle.pcap_core.specs.Padded.{Chain}
use Rattle.pcap_options.specs.Names.{NameText}
use Rattle.pcap_options.proofs.names.names_from_slice.Given as goal

abbrev pub invariant-loop-rest : goal.invariant-loop-rest
invariant-loop-rest l = record {
  so_far : Chain NameText (map cow_str_bytes l.names.items) l.fn.slice l.rest;
  borrowed : All IsBorrowedStr l.names.items;
}

abbrev pub decreases-loop-rest : goal.decreases-loop-rest
decreases-loop-rest l = length l.rest

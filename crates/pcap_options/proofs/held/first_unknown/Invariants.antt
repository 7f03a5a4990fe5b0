use Rattle.std.proofs.Common.{◌≡◌, [], map, take}
use Rattle.std.specs.List.{filter_map}
use Rattle.pcap_options.specs.Held.{unknown_in, under}
use Rattle.pcap_options.proofs.held.first_unknown.Given as goal

abbrev pub invariant-loop-option : goal.invariant-loop-option
invariant-loop-option g l = filter_map (under l.code unknown_in) (map g.O.HoldsEntry.entry (take l.option-index l.options)) ≡ []

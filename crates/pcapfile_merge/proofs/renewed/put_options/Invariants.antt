use Rattle.std.proofs.Common.{◌≡◌, ◌++◌, map}
use Rattle.std.specs.Vec.Iter.{into_iter_items}
use Rattle.pcap_options.specs.EnhancedOption.{enhanced_entry}
use Rattle.pcap_options.specs.PacketOption.{packet_entry}
use Rattle.pcapfile_merge.specs.Renewing.{kept_options}
use Rattle.pcapfile_merge.proofs.renewed.put_options.Given as goal

abbrev pub invariant-loop-option : goal.invariant-loop-option
invariant-loop-option l = record {
  kept : map enhanced_entry l.kept.items ≡ map enhanced_entry l.fn.kept.items ++ kept_options (map packet_entry l.yielded);
  rest : l.yielded ++ into_iter_items l.option-iterator ≡ l.fn.options.items;
}

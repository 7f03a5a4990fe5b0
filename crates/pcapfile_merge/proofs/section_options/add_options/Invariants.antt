use Rattle.std.proofs.Common.{◌≡◌, ◌++◌, length, map}
use Rattle.std.specs.List.{flat_map}
use Rattle.std.specs.Vec.Iter.{into_iter_items}
use Rattle.pcap_options.specs.SectionOption.{section_entry}
use Rattle.pcapfile_merge.specs.SectionOptions.{added}
use Rattle.pcapfile_merge.proofs.section_options.add_options.Given as goal

abbrev pub invariant-loop-option : goal.invariant-loop-option
invariant-loop-option l = record {
  options : map section_entry l.options.items ≡ map section_entry l.fn.options.items ++ flat_map (added l.name (map section_entry l.fn.options.items)) (map section_entry l.yielded);
  earlier : l.earlier ≡ length (map section_entry l.fn.options.items);
  rest : l.yielded ++ into_iter_items l.option-iterator ≡ l.fn.section.items;
}

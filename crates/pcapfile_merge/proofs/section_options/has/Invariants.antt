use Rattle.std.proofs.Common.{◌≡◌, false, map, take}
use Rattle.std.specs.List.{list_any}
use Rattle.pcap_options.specs.SectionOption.{section_entry}
use Rattle.pcapfile_merge.specs.SectionOptions.{is_same}
use Rattle.pcapfile_merge.proofs.section_options.has.Given as goal

abbrev pub invariant-loop-other : goal.invariant-loop-other
invariant-loop-other l = list_any (is_same (section_entry l.option)) (map section_entry (take l.other-index l.options)) ≡ false

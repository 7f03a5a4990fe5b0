use Rattle.std.proofs.Common.{◌≡◌, ◌++◌, map, take}
use Rattle.std.specs.Cow.{cow_str_bytes}
use Rattle.std.specs.List.{flat_map}
use Rattle.pcap_written.specs.Bodies.{name_text}
use Rattle.pcap_written.proofs.names.put_names.Given as goal

abbrev pub invariant-loop-name : goal.invariant-loop-name
invariant-loop-name l = l.out.items ≡ l.fn.out.items ++ flat_map name_text (map cow_str_bytes (take l.name-index l.names))

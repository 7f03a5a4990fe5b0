use Rattle.std.proofs.Common.{◌≡◌, map, take, length}
use Rattle.std.specs.Prelude.{All}
use Rattle.std.specs.Cow.{cow_str_bytes}
use Rattle.std.specs.List.{flat_map}
use Rattle.pcap_written.specs.Bodies.{name_text}
use Rattle.pcap_written.specs.Fits.{IsFitName}
use Rattle.pcap_written.proofs.names.names_len.Given as goal

abbrev pub invariant-loop-name : goal.invariant-loop-name
invariant-loop-name l = record {
  len : length (flat_map name_text (map cow_str_bytes (take l.name-index l.names))) ≡ l.len;
  fit : All IsFitName (map cow_str_bytes (take l.name-index l.names));
}

use Rattle.std.proofs.Common.{◌≡◌, ◌++◌, map, take}
use Rattle.std.specs.List.{flat_map}
use Rattle.pcap_written.specs.Text.{option_text}
use Rattle.pcap_written.specs.Fits.{AreFit}
use Rattle.pcap_written.proofs.options.put_options.Given as goal

abbrev pub invariant-loop-option : goal.invariant-loop-option
invariant-loop-option g l = record {
  out : l.out.items ≡ l.fn.out.items ++ flat_map (option_text g.B.ByteOrder.bytes_of g.O.WrittenOption.kind) (map g.O.WrittenOption.view (take l.option-index l.options));
  fit : AreFit g.B.ByteOrder.number_of g.B.ByteOrder.bytes_of g.O.WrittenOption.kind (map g.O.WrittenOption.view (take l.option-index l.options));
}

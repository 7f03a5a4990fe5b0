use Rattle.std.proofs.Common.{◌≡◌, ◌∙◌, ap, sym}
use Rattle.std.specs.Int.{w64, cast_signed}
use Rattle.pcap_times.specs.Times.{unit_of}
use Rattle.pcapfile_mended.proofs.laws.alike_interfaces_have_one_clock.Goals as goal

pub returns : goal.returns
returns c = λ like given made clock one other is. record {
  unit = is.unit ∙ ap unit_of (sym one.resolution ∙ other.resolution);
  offset = is.offset ∙ ap (cast_signed w64) (sym one.offset ∙ other.offset);
}

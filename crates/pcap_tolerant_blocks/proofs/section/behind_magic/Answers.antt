use Rattle.std.proofs.Common.{[], refl}
use Rattle.std.specs.Int.{w64, cast_signed}
use Rattle.pcap_blocks.specs.SectionHeader.{Section, VersionText}
use Rattle.pcap_tolerant_blocks.specs.SectionAsIs.{VersionGrows}
use Rattle.pcap_tolerant_blocks.proofs.Growth.{grows_behind_version}
use Rattle.pcap_raw_options.proofs.RawRead.{holds_on_err}
use Rattle.pcap_tolerant_blocks.proofs.section.behind_magic.Goals as goal

pub returns-in_err-list-clause-memory : goal.returns-in_err-list-clause-memory
returns-in_err-list-clause-memory g c =
    let order = g.B.ByteOrder.number_of in
    let s = c.args.slice.now in
    let bits = c.split_u64-section_length.result.0 in
    let section : Section = record { magic = c.args.magic; major_version = c.split_u16-major_version.result.0; minor_version = c.split_u16-minor_version.result.0; section_length = cast_signed w64 bits; options = [] } in
    let version : VersionText order section s c.split_u64-section_length.result.1.now = record {
      after_major = _;
      after_minor = _;
      length_bits = bits;
      major = c.split_u16-major_version.ensures.number;
      minor = c.split_u16-minor_version.ensures.number;
      length_number = c.split_u64-section_length.ensures.number;
      length_is = refl;
    } in
    holds_on_err (VersionGrows order s) (grows_behind_version order section s c.split_u64-section_length.result.1.now version c.in_err-list.ensures.memory) c.from_residual.result

use Rattle.std.proofs.Common.{refl, ◌∙◌, rules}
use Rattle.std.specs.Prelude.{FitsSigned}
use Rattle.std.specs.Int.{w64}
use Rattle.std.proofs.lemmas.Int.{to_z-of_z}
use Rattle.std.proofs.lemmas.Result.{err_from_is_err_and}
use Rattle.pcap_blocks.proofs.Bodies.{after_magic_fails}
use Rattle.pcap_core.proofs.Padded.{behind_number, behind_both}
use Rattle.pcap_options.proofs.Growth.{holds_after}
use Rattle.pcap_options.proofs.Refusals.{denies_more}
use Rattle.pcap_blocks.proofs.section_header.SectionHeaderBlock.read_after.Goals as goal

pub returns-in_err-rest-clause-tells : goal.returns-in_err-rest-clause-tells
returns-in_err-rest-clause-tells g c =
    let p = err_from_is_err_and c.from_residual.result c.from_residual.ensures.1 in
    let version = behind_both (behind_both (behind_number c.split_u16-major_version.ensures.number) (behind_number c.split_u16-minor_version.ensures.number)) (behind_number c.split_u64-section_length.ensures.number) in
    rw (p.1, p.2) (denies_more c.in_err-rest.field-0.0 (holds_after 12 _ _ _ version) (after_magic_fails _ _ _ version) c.in_err-rest.ensures.tells)

pub returns-clause-tells : goal.returns-clause-tells
returns-clause-tells g c =
    let fits : FitsSigned w64 c.cast_signed.result = search rules in (
      refl,
      record {
        after_version = _;
        version = record {
          after_major = _;
          after_minor = _;
          length_bits = _;
          major = c.split_u16-major_version.ensures.number;
          minor = c.split_u16-minor_version.ensures.number;
          length_number = c.split_u64-section_length.ensures.number;
          length_is = to_z-of_z w64 c.cast_signed.result fits ∙ c.cast_signed.ensures;
        };
        options_are = c.in_ok-rest.ensures.tells;
      },
    )

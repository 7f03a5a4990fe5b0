use Rattle.std.proofs.Common.{arith}
use Rattle.std.proofs.lemmas.Result.{err_from_is_err_and}
use Rattle.pcap_core.specs.declared.common.Endianness.TheVariants.{Big, Little}
use Rattle.pcap_core.specs.declared.rules.Rule.TheVariants.{SectionTooShort, SectionMagic}
use Rattle.pcap_core.proofs.Refusals.{named_refuses}
use Rattle.pcap_blocks.proofs.Bodies.{big_magic, little_magic, no_magic_order}
use Rattle.pcap_tolerant_blocks.specs.SectionAsIs.{NoSection, SectionGrows, short_section, unnamed}
use Rattle.pcap_tolerant_blocks.proofs.Bodies.{section_text}
use Rattle.pcap_tolerant_blocks.proofs.Growth.{grows_behind_magic}
use Rattle.pcap_tolerant_blocks.proofs.section.SectionAsIs.from_slice.Goals as goal

pub returns-then-slice-lt16-clause-refused : goal.returns-then-slice-lt16-clause-refused
returns-then-slice-lt16-clause-refused c = named_refuses (SectionGrows c.args.slice.now) (λ n. ⊥) (NoSection c.args.slice.now) SectionTooShort c.from.result (short_section (omega arith)) c.from.ensures

pub returns-in_ok-behind_magic-in-439041101-clause-read : goal.returns-in_ok-behind_magic-in-439041101-clause-read
returns-in_ok-behind_magic-in-439041101-clause-read c =
    section_text _ _ _ _ _ _ Big c.split_u32-magic.ensures.number (big_magic _ c.in-439041101.is) c.in_ok-behind_magic-in-439041101.ensures.magic c.in_ok-behind_magic-in-439041101.ensures.read

pub returns-in_ok-behind_magic-in-1295788826-clause-read : goal.returns-in_ok-behind_magic-in-1295788826-clause-read
returns-in_ok-behind_magic-in-1295788826-clause-read c =
    section_text _ _ _ _ _ _ Little c.split_u32-magic.ensures.number (little_magic _ c.in-1295788826.is) c.in_ok-behind_magic-in-1295788826.ensures.magic c.in_ok-behind_magic-in-1295788826.ensures.read

pub returns-in_default-clause-refused : goal.returns-in_default-clause-refused
returns-in_default-clause-refused c =
    let none = unnamed _ _ (omega arith) c.split_u32-magic.ensures.number (no_magic_order _ (λ e. omega arith) (λ e. omega arith)) in
    named_refuses (SectionGrows c.args.slice.now) (λ n. ⊥) (NoSection c.args.slice.now) SectionMagic c.from-in_default.result none c.from-in_default.ensures

pub returns-in_err-behind_magic-in-439041101-clause-refused : goal.returns-in_err-behind_magic-in-439041101-clause-refused
returns-in_err-behind_magic-in-439041101-clause-refused c =
    let s = c.args.slice.now in
    let grows = grows_behind_magic _ s _ Big (omega arith) c.split_u32-magic.ensures.number (big_magic _ c.in-439041101.is) c.in_err-behind_magic-in-439041101.ensures.memory in
    let told = err_from_is_err_and c.from_residual.result c.from_residual.ensures.1 in
    rw (told.1, told.2) grows

pub returns-in_err-behind_magic-in-1295788826-clause-refused : goal.returns-in_err-behind_magic-in-1295788826-clause-refused
returns-in_err-behind_magic-in-1295788826-clause-refused c =
    let s = c.args.slice.now in
    let grows = grows_behind_magic _ s _ Little (omega arith) c.split_u32-magic.ensures.number (little_magic _ c.in-1295788826.is) c.in_err-behind_magic-in-1295788826.ensures.memory in
    let told = err_from_is_err_and c.from_residual-in_err-behind_magic-in-1295788826.result c.from_residual-in_err-behind_magic-in-1295788826.ensures.1 in
    rw (told.1, told.2) grows

use Rattle.std.proofs.Common.{arith, subst, sym}
use Rattle.pcap_core.specs.Answer.{number_in}
use Rattle.pcap_options.specs.SectionOption.{section_header}
use Rattle.pcap_tolerant_blocks.specs.NextFlaw.{HasFlaws}
use Rattle.pcapfile_as_is.proofs.SaidLines.{all_behind}
use Rattle.pcap_tolerant_blocks.proofs.BodyFlaws.{section_flaws, section_long}
use Rattle.pcapfile_as_is.proofs.block_flaws.put_flaws_of_section.Goals as goal

pub returns-then-body-lt16 : goal.returns-then-body-lt16
returns-then-body-lt16 g c = λ section flaws rest named text.
    absurd (omega (arith, section_long section flaws c.args.body.now rest text, c.if-body-lt16.true))

pub returns : goal.returns
returns g c = λ section flaws rest named text.
    let has = section_flaws section flaws c.args.body.now rest c.args.order named text in
    c.put_flaws.ensures flaws (subst (HasFlaws (number_in c.args.order) section_header flaws) (sym (all_behind 16 c.args.body.now)) has)

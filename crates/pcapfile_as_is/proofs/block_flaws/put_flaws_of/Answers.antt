use Rattle.std.proofs.Common.{◌≡◌, ◌∙◌, ℕ, List, Ok, false, refl, sym, subst}
use Rattle.std.proofs.KnownBytes.{Appends-nil}
use Rattle.pcap_ng.specs.Lent.{framed_around}
use Rattle.pcap_tolerant_blocks.specs.Flaws.{Said}
use Rattle.pcapfile_as_is.specs.BlockLines.{WritesFlaws, block_place}
use Rattle.pcapfile_as_is.proofs.Outlined.{interface_of_block, none_of_block, section_of_block}
use Rattle.pcapfile_as_is.proofs.block_flaws.put_flaws_of.Goals as goal

pub returns-in_ok-place-in-SectionHeader : goal.returns-in_ok-place-in-SectionHeader
returns-in_ok-place-in-SectionHeader g c = λ q led s text.
    let before = g.W.Write.contents c.args.output.now in
    let now = g.W.Write.contents c.put_flaws_of_section.new.output in
    let found = section_of_block q (framed_around c.args.header c.args.body.now) led s text c.in-SectionHeader.is in
    subst (λ (l : List ℕ). WritesFlaws l led.flaws before now c.put_flaws_of_section.result) (c.as_str.ensures.value ∙ c.in_ok-place-in-SectionHeader.ensures) (c.put_flaws_of_section.ensures found.0 led.flaws found.1 found.2 found.3)

pub returns-in_ok-place-in-InterfaceDescription : goal.returns-in_ok-place-in-InterfaceDescription
returns-in_ok-place-in-InterfaceDescription g c = λ q led s text.
    let before = g.W.Write.contents c.args.output.now in
    let now = g.W.Write.contents c.put_flaws_of_interface.new.output in
    let found = interface_of_block q (framed_around c.args.header c.args.body.now) led s text c.in-InterfaceDescription.is in
    subst (λ (l : List ℕ). WritesFlaws l led.flaws before now c.put_flaws_of_interface.result) (c.as_str-in-InterfaceDescription.ensures.value ∙ c.in_ok-place-in-InterfaceDescription.ensures) (c.put_flaws_of_interface.ensures found.0 led.flaws found.1 found.2)

pub returns-in_default : goal.returns-in_default
returns-in_default g c = λ q led s text.
    let before = g.W.Write.contents c.args.output.now in
    let none = none_of_block q (framed_around c.args.header c.args.body.now) led s text c.in_default.not-SectionHeader c.in_default.not-InterfaceDescription in
    subst (λ (l : List Said). WritesFlaws (block_place c.args.prefix.now c.args.at.number c.args.at.place) l before before (Ok false)) (sym none) (refl, Appends-nil before)

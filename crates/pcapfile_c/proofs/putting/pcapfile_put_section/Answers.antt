use Rattle.std.proofs.Common.{◌≡◌, Some, ap, pos, refl, subst, sym, ◌∙◌}
use Rattle.pcap_core.specs.declared.rules.Rule.TheVariants.{SectionMagic}
use Rattle.pcap_core.specs.Codec.{number_bytes}
use Rattle.pcap_core.proofs.Codec.{codec}
use Rattle.pcap_blocks.specs.SectionHeader.{magic_order}
use Rattle.pcap_written.specs.Bodies.{text_of}
use Rattle.pcapfile_values.specs.declared.blocks.PcapfileSection.{PcapfileSection}
use Rattle.pcapfile_values.specs.declared.errors.PcapfileError.{PcapfileError}
use Rattle.pcapfile_values.specs.declared.reasons.Reason.TheVariants.{Breaks}
use Rattle.pcapfile_values.specs.BlockTexts.{PutsAt, section_block}
use Rattle.pcapfile_values.proofs.Parts.{section_text_long}
use Rattle.pcapfile_c.specs.Putting.{PutsBlock, SectionFlaw, a_section}
use Rattle.pcapfile_c.specs.Readers.{block_writer}
use Rattle.pcapfile_c.proofs.Fitting.{puts_whole, puts_nothing, puts_refused, section_is_text}
use Rattle.pcapfile_c.proofs.putting.pcapfile_put_section.Goals as goal

pub returns-in_default : goal.returns-in_default
returns-in_default c =
    puts_refused (SectionFlaw c.args.section.now) (a_section c.args.section.now) c.args.section.now c.args.room.now c.args.written.now c.args.error.now c.refuse.new.told c.refuse.result (Breaks SectionMagic) (refl, ap (λ (o : PcapfileSection). magic_order o.magic_number) (sym c.without_interfaces-opened.ensures.shown) ∙ sym c.endianness.ensures ∙ c.in_default.is) c.refuse.ensures

pub returns-then-room-lt28 : goal.returns-then-room-lt28
returns-then-room-lt28 c =
    let s = c.args.section.now in
    let e = c.in-Some.order in
    let order : magic_order s.magic_number ≡ Some e = ap (λ (o : PcapfileSection). magic_order o.magic_number) (sym c.without_interfaces-opened.ensures.shown) ∙ sym c.in-Some.ensures in
    puts_nothing (SectionFlaw s) (a_section s) s (record s { interfaces = 0 }) (text_of (number_bytes e) (section_block s)) c.args.room.now 28 c.args.written.now c.args.error.now c.need.new.told c.need.result
    (section_is_text e s order c.without_interfaces-opened.ensures.major c.without_interfaces-opened.ensures.minor) (sym (section_text_long (number_bytes e) (codec e).wide s)) c.if-room-lt28.true
    (ap (λ (t : PcapfileError). t.rule) c.need.ensures.told) (ap (λ (t : PcapfileError). t.missing) c.need.ensures.told) c.need.ensures.status

pub returns : goal.returns
returns c =
    let s = c.args.section.now in
    let e = c.in-Some.order in
    let opened = c.without_interfaces-opened.result in
    let shown = c.without_interfaces-opened.ensures.shown in
    let order : magic_order s.magic_number ≡ Some e = ap (λ (o : PcapfileSection). magic_order o.magic_number) (sym shown) ∙ sym c.in-Some.ensures in
    let put : PutsAt 0 (text_of (number_bytes e) (section_block s)) c.args.room.now c.put_section.new.room =
    subst (λ (o : PcapfileSection). PutsAt 0 (text_of (number_bytes e) (section_block o)) c.args.room.now c.put_section.new.room) shown c.put_section.ensures in
    let whole = puts_whole (SectionFlaw s) (a_section s) s (record s { interfaces = 0 }) (text_of (number_bytes e) (section_block s)) c.args.room.now c.put_section.new.room 28 c.args.written.now c.args.error.now
    (section_is_text e s order c.without_interfaces-opened.ensures.major c.without_interfaces-opened.ensures.minor) (sym (section_text_long (number_bytes e) (codec e).wide s)) put in
    subst (λ (next : PcapfileSection). PutsBlock (SectionFlaw s) (a_section s) (block_writer s c.args.room.now c.args.written.now c.args.error.now) (block_writer next c.put_section.new.room 28 c.args.error.now) (pos 0)) (sym shown) whole

use Rattle.std.proofs.Common.{◌≡◌, Some, ap, pos, refl, subst, sym, ◌∙◌}
use Rattle.pcap_blocks.specs.SectionHeader.{magic_order}
use Rattle.pcapfile_values.specs.declared.blocks.PcapfileSection.{PcapfileSection}
use Rattle.pcapfile_c.specs.Putting.{PutsBlock, SectionWithFlaw, a_section_with}
use Rattle.pcapfile_c.specs.Readers.{block_writer}
use Rattle.pcapfile_c.proofs.RawFitting.{section_head}
use Rattle.pcapfile_c.proofs.WithOptions.{section_done, section_kept}
use Rattle.pcapfile_c.proofs.putting_with.pcapfile_put_section_with.Goals as goal

pub returns-then-status-ne0 : goal.returns-then-status-ne0
returns-then-status-ne0 c =
    let e = c.in-Some.order in
    let s = c.args.section.now in
    let shown = c.without_interfaces-opened.ensures.shown in
    let order : magic_order s.magic_number ≡ Some e = ap (λ (o : PcapfileSection). magic_order o.magic_number) (sym shown) ∙ sym c.in-Some.ensures in
    section_kept e s c.args.options c.args.room.now c.put_parts-status.new.room c.args.written.now c.put_parts-status.new.written c.args.error.now c.put_parts-status.new.error c.put_parts-status.result c.put_parts-status.ensures
    refl (section_head e c.without_interfaces-opened.result s shown c.put_section.ensures) order c.if-status-ne0.true

pub returns : goal.returns
returns c =
    let e = c.in-Some.order in
    let s = c.args.section.now in
    let os = c.args.options.now in
    let shown = c.without_interfaces-opened.ensures.shown in
    let order : magic_order s.magic_number ≡ Some e = ap (λ (o : PcapfileSection). magic_order o.magic_number) (sym shown) ∙ sym c.in-Some.ensures in
    let whole = section_done e s c.args.options c.args.room.now c.put_parts-status.new.room c.args.written.now c.put_parts-status.new.written c.args.error.now c.put_parts-status.new.error c.put_parts-status.result c.put_parts-status.ensures
    refl (section_head e c.without_interfaces-opened.result s shown c.put_section.ensures) order c.if-status-ne0.false in
    subst (λ (next : PcapfileSection). PutsBlock (SectionWithFlaw s os) (a_section_with s os) (block_writer s c.args.room.now c.args.written.now c.args.error.now) (block_writer next c.put_parts-status.new.room c.put_parts-status.new.written c.put_parts-status.new.error) (pos 0)) (sym shown) whole

use Rattle.std.proofs.Common.{refl}
use Rattle.std.proofs.lemmas.Result.{err_from_is_err_and}
use Rattle.pcap_blocks.specs.SectionHeader.{section_of}
use Rattle.pcap_ng.specs.Frames.{framed_of}
use Rattle.pcapfile_values.proofs.Leading.{change_refuses, first_refuses, interface_leads, opened_leads, other_leads}
use Rattle.pcapfile_values.proofs.blocks.PcapfileSection.led.Goals as goal

pub returns-in_err-first_section : goal.returns-in_err-first_section
returns-in_err-first_section c q shows =
    let p = err_from_is_err_and c.from_residual.result c.from_residual.ensures.1 in
    rw (p.1, p.2) (first_refuses c.args.self.now q (framed_of c.args.block.now) c.in_err-first_section.field-0.0 shows c.if-self-eq0.true c.in_err-first_section.ensures.tells)

pub returns-then-self-eq0 : goal.returns-then-self-eq0
returns-then-self-eq0 c q shows =
    let found = c.in_ok-first_section in
    opened_leads q (framed_of c.args.block.now) c.opened.result (section_of found.field-0) found.ensures.tells.1 found.ensures.tells.0 found.ensures.tells.2 c.opened.ensures.shows c.opened.ensures.none

pub returns-in_err-section : goal.returns-in_err-section
returns-in_err-section c q shows =
    let p = err_from_is_err_and c.from_residual-in_err-section.result c.from_residual-in_err-section.ensures.1 in
    let told = c.in_err-section.ensures.tells in
    rw (p.1, p.2) (change_refuses c.args.self.now q (framed_of c.args.block.now) c.in_err-section.field-0.0 shows c.if-self-eq0.false told.0 told.1)

pub returns-in-Section : goal.returns-in-Section
returns-in-Section c q shows =
    let told = rw c.in-Section.is at c.in_ok-section.ensures.tells in
    opened_leads q (framed_of c.args.block.now) c.opened-in-Section.result (section_of c.in-Section.section) told.1 told.0 told.2 c.opened-in-Section.ensures.shows c.opened-in-Section.ensures.none

pub returns-in-Interface : goal.returns-in-Interface
returns-in-Interface c q shows =
    let told = rw c.in-Interface.is at c.in_ok-section.ensures.tells in
    interface_leads c.args.self.now _ q (framed_of c.args.block.now) _ told.1 shows c.if-self-eq0.false told.0 told.2 refl refl refl c.saturating_add.ensures

pub returns-in-Nothing : goal.returns-in-Nothing
returns-in-Nothing c q shows = other_leads c.args.self.now q (framed_of c.args.block.now) shows c.if-self-eq0.false (rw c.in-Nothing.is at c.in_ok-section.ensures.tells)

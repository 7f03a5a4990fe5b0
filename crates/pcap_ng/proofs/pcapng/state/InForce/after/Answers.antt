use Rattle.std.proofs.Common.{[]}
use Rattle.pcap_items.specs.Headed.{good}
use Rattle.pcap_blocks.specs.SectionHeader.{section_of}
use Rattle.pcap_ng.specs.Frames.{framed_of}
use Rattle.pcap_ng.specs.State.{opening, within, Means}
use Rattle.pcap_ng.proofs.KeptBodies.{section_means}
use Rattle.pcap_ng.proofs.pcapng.state.InForce.after.Goals as goal

pub returns : goal.returns
returns c =
    let b = framed_of c.args.block.now in
    let told = c.in_ok-first_section.ensures.tells in
    let means : Means opening b (good (within (section_of c.in_ok-section.section) [])) = rw c.in_ok-section.ensures.same (section_means b told.0 opening (section_of c.in_ok-first_section.field-0) told.1 told.2) in
    rw c.new.ensures.items means

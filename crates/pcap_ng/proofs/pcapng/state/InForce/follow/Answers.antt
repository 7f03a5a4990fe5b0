use Rattle.std.proofs.Common.{map}
use Rattle.pcap_blocks.specs.InterfaceDescription.{interface_of}
use Rattle.pcap_blocks.specs.SectionHeader.{section_of}
use Rattle.pcap_ng.specs.Frames.{framed_of}
use Rattle.pcap_ng.specs.State.{state_in}
use Rattle.pcap_ng.proofs.KeptBodies.{section_follows, interface_follows}
use Rattle.pcap_ng.proofs.pcapng.state.InForce.follow.Goals as goal

pub returns-in-Section : goal.returns-in-Section
returns-in-Section c =
    let f = c.args.self.now in
    section_follows (section_of f.section) (map interface_of f.interfaces.items) (framed_of c.args.block.now) (state_in c.begin_section.new.self) c.in_ok-section.field-0 c.in-Section.section c.begin_section.result c.in_ok-section.ensures.tells c.in-Section.is c.begin_section.ensures

pub returns-in-Interface : goal.returns-in-Interface
returns-in-Interface c =
    let f = c.args.self.now in
    interface_follows (section_of f.section) (map interface_of f.interfaces.items) (framed_of c.args.block.now) (state_in c.add_interface.new.self) c.in_ok-section.field-0 c.in-Interface.interface c.add_interface.result c.in_ok-section.ensures.tells c.in-Interface.is c.add_interface.ensures

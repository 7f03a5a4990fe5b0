use Rattle.std.proofs.Common.{map}
use Rattle.pcap_blocks.specs.InterfaceDescription.{interface_of}
use Rattle.pcap_blocks.specs.SectionHeader.{section_of}
use Rattle.pcapfile_info.proofs.InForce.{interface_followed, last_seen, section_followed}
use Rattle.pcapfile_info.proofs.clocks.Clocks.follow.Goals as goal

pub returns-in-SectionHeader : goal.returns-in-SectionHeader
returns-in-SectionHeader c =
    rw c.in-SectionHeader.is (λ before known leads. section_followed c.order_of-self.result c.clear.new.self.items (section_of c.args.section.now) (map interface_of c.args.interfaces.now) c.order_of-self.ensures c.clear.ensures.items before leads)

pub returns-in_ok-push-in-InterfaceDescription : goal.returns-in_ok-push-in-InterfaceDescription
returns-in_ok-push-in-InterfaceDescription c =
    let last = c.in-Some.interface.now in
    rw c.in-InterfaceDescription.is (λ before known leads.
    interface_followed c.args.self.now.order c.args.self.now.clocks.items c.push.new.self.items (section_of c.args.section.now) (map interface_of c.args.interfaces.now) (interface_of last) c.clock.result c.in_ok-push-in-InterfaceDescription.ensures.items
    (last_seen c.args.interfaces.now last c.in-Some.ensures.value) c.clock.ensures before known leads)

use Rattle.std.specs.Prelude.{map, take}
use Rattle.pcap_blocks.specs.InterfaceDescription.{interface_of}
use Rattle.pcap_blocks.specs.SectionHeader.{section_of}
use Rattle.pcap_ng.proofs.Stretched.{sends_left}
use Rattle.pcap_ng.proofs.pcapng.copying.BlocksAheadShown.put_shown.Goals as goal

pub returns-clause-sends : goal.returns-clause-sends
returns-clause-sends g c =
    let f = c.args.place.now in
    sends_left (section_of f.section) (map interface_of f.interfaces.items) c.order.result c.order.ensures (take c.put_shown.result.used c.args.shown.now) _ _ c.args.most _ _ _ c.put_shown.result.fault c.put_shown.ensures.sends

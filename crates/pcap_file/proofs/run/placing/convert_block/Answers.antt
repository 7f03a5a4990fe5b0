use Rattle.std.proofs.Common.{List, subst}
use Rattle.pcap_blocks.specs.InterfaceDescription.{Interface}
use Rattle.pcap_ng.specs.Frames.{Framed, framed_of}
use Rattle.pcap_file.specs.Placing.{PlacesBlock, sink_of}
use Rattle.pcap_ng.specs.Reader.{interfaces_in_force}
use Rattle.pcap_file.proofs.run.placing.convert_block.Goals as goal

pub returns-clause-placed : goal.returns-clause-placed
returns-clause-placed g c =
    let header = c.args.writer.now.header in
    let before = sink_of g.W.Write.contents c.args.writer.now in
    let after = sink_of g.W.Write.contents c.convert_packet.new.writer in
    let result = c.convert_packet.result in
    subst (λ (b : Framed). PlacesBlock header c.args.unplaced (interfaces_in_force c.args.reader.now) b before after result) c.block.ensures.block
    (subst (λ (interfaces : List Interface). PlacesBlock header c.args.unplaced interfaces (framed_of c.block.result) before after result) c.interfaces.ensures c.convert_packet.ensures.placed)

use Rattle.std.proofs.Common.{map}
use Rattle.pcap_blocks.specs.InterfaceDescription.{interface_of}
use Rattle.pcap_ng.specs.Blocks.{item_of}
use Rattle.pcap_ng.specs.Parser.{state_of}
use Rattle.pcapfile_list.proofs.StoredLists.{stored_written}
use Rattle.pcapfile_list.proofs.packets.StoredLinesBlockLine.write_line.Goals as goal

pub returns-clause-writes : goal.returns-clause-writes
returns-clause-writes g c =
    let lines = c.args.self.now in
    let item = item_of (state_of c.args.parser.now) c.args.block.now in
    let wrote = c.write_block.ensures in
    stored_written lines.form c.args._index lines.packets c.write_block.new.packets item (map interface_of c.interfaces-interfaces.result.now) (g.W.Write.contents c.args.output.now) (g.W.Write.contents c.write_block.new.output) c.write_block.result wrote.counts c.interfaces-interfaces.ensures wrote.writes

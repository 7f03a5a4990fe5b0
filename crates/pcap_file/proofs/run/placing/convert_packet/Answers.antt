use Rattle.pcap_blocks.specs.ParsedBlock.{body_of}
use Rattle.pcap_file.proofs.Placing.{block_placed}
use Rattle.pcap_file.proofs.run.placing.convert_packet.Goals as goal

pub returns-clause-placed : goal.returns-clause-placed
returns-clause-placed g c =
    let says = c.in_ok-parsed.ensures.tells in
    block_placed _ _ _ _ _ _ (body_of c.in_ok-parsed.parsed) says.0 c.requires.of_packet says.1 c.place-placed.result c.place-placed.ensures c.put_placed.result c.put_placed.ensures.put

use Rattle.pcap_file.specs.Converted.{converted, little_texts}
use Rattle.pcap_file.proofs.ConvertedAgain.{conversion_wholes}
use Rattle.pcap_file.proofs.RoundTrips.{blocks_become}
use Rattle.pcap_file.proofs.laws.conversion_converts_back.Goals as goal

pub returns : goal.returns
returns p = λ bytes out out_now most copied fits c inside.
    blocks_become c.header c.packets (little_texts (converted c.header c.packets)) (conversion_wholes bytes out out_now most copied fits c) inside c.blocks

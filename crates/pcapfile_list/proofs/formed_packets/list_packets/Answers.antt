use Rattle.pcap_classic.specs.PacketText.{packet_limit}
use Rattle.pcap_classic.proofs.Packets.{reader_lawful}
use Rattle.pcap_walk.specs.declared.packets.Packets.{Packets}
use Rattle.pcap_walk.specs.MetPackets.{met_packet}
use Rattle.pcapfile_list.specs.declared.formed_packets.FormedPackets.{FormedPackets}
use Rattle.pcapfile_list.proofs.WalkedLists.{packets_walked, record_long}
use Rattle.pcapfile_list.proofs.formed_packets.list_packets.Goals as goal

pub walk-ended-requires-clause-serves : goal.walk-ended-requires-clause-serves
walk-ended-requires-clause-serves g c = λ walker head text q said. record_long walker.header.now text (met_packet head text) said

pub walk-ended-requires-clause-lawful : goal.walk-ended-requires-clause-lawful
walk-ended-requires-clause-lawful g c = reader_lawful packet_limit c.new-packets.result.header.now

pub returns : goal.returns
returns g c =
    packets_walked Packets FormedPackets (λ p. p.form) c.in_ok-header.header c.new-packets.result.header.now c.new-packets.ensures.header (g.R.Read.remaining c.args.input.now) _ (g.R.Read.remaining c.walk-ended.new.input) _ _ _ _ _ _ _ _ _ c.in_ok-header.ensures c.walk-ended.ensures c.result_of.ensures

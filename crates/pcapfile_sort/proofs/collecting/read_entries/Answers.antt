use Rattle.pcap_classic.specs.PacketText.{packet_limit}
use Rattle.pcap_classic.proofs.Packets.{reader_lawful}
use Rattle.pcap_walk.specs.declared.packets.Packets.{Packets}
use Rattle.pcapfile_sort.proofs.KeptEntries.{entries_walked}
use Rattle.pcapfile_sort.proofs.PacketRecords.{packet_long}
use Rattle.pcapfile_sort.proofs.collecting.read_entries.Goals as goal

pub walk-requires-clause-serves : goal.walk-requires-clause-serves
walk-requires-clause-serves g c = λ walker head text q said. packet_long walker.header.now head text said

pub walk-requires-clause-lawful : goal.walk-requires-clause-lawful
walk-requires-clause-lawful g c = reader_lawful packet_limit c.new-packets.result.header.now

pub returns : goal.returns
returns g c =
    entries_walked Packets c.args.header.now c.new-packets.result.header.now c.new-packets.ensures.header _ c.requires.none_yet (g.R.Read.remaining c.args.input.now) (g.R.Read.remaining c.walk.new.input) c.walk.new.walked.read_failed
    _ c.args.entries.now c.walk.new.sink _ _ c.walk.result c.requires.empty c.walk.ensures

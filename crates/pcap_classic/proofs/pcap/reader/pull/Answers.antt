use Rattle.std.proofs.Common.{arith}
use Rattle.pcap_classic.specs.PacketText.{packet_limit}
use Rattle.pcap_classic.proofs.Packets.{reader_lawful}
use Rattle.pcap_classic.proofs.StatedPackets.{packet_taken, head_within}
use Rattle.pcap_classic.proofs.pcap.reader.pull.Goals as goal

pub take-requires-clause-lawful : goal.take-requires-clause-lawful
take-requires-clause-lawful g c = reader_lawful packet_limit c.args.header.now

pub returns-clause-pulls : goal.returns-clause-pulls
returns-clause-pulls g c =
    let taken = rw c.in-Some.is at c.in_ok-header.ensures.takes in
    (taken.0, packet_taken c.args.header.now c.in-Some.header c.in-Some.bytes.items _ _ taken.1)

pub returns-in_err-header-clause-room : goal.returns-in_err-header-clause-room
returns-in_err-header-clause-room g c = omega (arith, c.take.ensures.room, head_within c.args.header.now)

pub returns-in_default-clause-room : goal.returns-in_default-clause-room
returns-in_default-clause-room g c = omega (arith, c.take.ensures.room, head_within c.args.header.now)

pub returns-clause-room : goal.returns-clause-room
returns-clause-room g c = omega (arith, c.take.ensures.room, head_within c.args.header.now)

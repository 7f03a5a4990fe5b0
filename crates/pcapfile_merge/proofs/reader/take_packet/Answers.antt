use Rattle.std.proofs.Common.{refl}
use Rattle.pcap_file.proofs.Converting.{packet_short}
use Rattle.pcapfile_merge.specs.Buffered.{data_of, header_of, lent_packet}
use Rattle.pcapfile_merge.proofs.reader.take_packet.Goals as goal

pub returns-in-None : goal.returns-in-None
returns-in-None g c =
    let next = rw c.requires at c.in-None.ensures.next in
    (c.in-None.ensures.header, (next.1, next.3, next.2))

pub returns-in-Some-Err : goal.returns-in-Some-Err
returns-in-Some-Err g c =
    let next = rw (c.requires, c.in-Some-Err.field-0-is) at c.in-Some-Err.ensures.next in
    (c.in-Some-Err.ensures.header, (next.1, next.2))

pub returns-in-Some-Ok : goal.returns-in-Some-Ok
returns-in-Some-Ok g c =
    let reader = c.next_header.new.self in
    let next = rw (c.requires, c.in-Some-Ok.field-0-is) at c.in-Some-Ok.ensures.next in
    let packet = lent_packet reader c.in-Some-Ok.header in
    (c.in-Some-Ok.ensures.header, (refl, next.0, packet_short (header_of c.args.reader.now) next.2.0 packet next.2.1, packet, c.pending_of_header.ensures.is (data_of reader), next.2))

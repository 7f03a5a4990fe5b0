use Rattle.std.proofs.lemmas.Result.{err_from_is_err_and}
use Rattle.std.proofs.Common.{◌++◌}
use Rattle.std.proofs.KnownBytes.{Consumes-trans}
use Rattle.pcap_classic.specs.PacketText.{packet_limit}
use Rattle.pcap_classic.proofs.PacketStream.{header_refuses_packet, data_refuses_packet, packet_joined}
use Rattle.pcap_classic.proofs.pcap.packet.Packet.from_reader.Goals as goal

pub returns-in_err-header-clause-packet : goal.returns-in_err-header-clause-packet
returns-in_err-header-clause-packet g c =
    let p = err_from_is_err_and c.from_residual.result c.from_residual.ensures.1 in
    rw (p.1, p.2) (header_refuses_packet packet_limit g.B.ByteOrder.number_of c.args.ts_resolution c.in_err-header.field-0.0 _ (g.R.Read.remaining c.from_reader.new.reader) c.in_err-header.ensures)

pub returns-in_err-bytes-clause-packet : goal.returns-in_err-bytes-clause-packet
returns-in_err-bytes-clause-packet g c =
    let header = c.in_ok-header.ensures in
    let p = err_from_is_err_and c.from_residual-in_err-bytes.result c.from_residual-in_err-bytes.ensures.1 in
    rw (p.1, p.2) (data_refuses_packet packet_limit g.B.ByteOrder.number_of c.args.ts_resolution c.in_err-bytes.field-0.0 c.in_ok-header.header header.0 _ _ _ _ _ header.1 header.2 c.in_err-bytes.ensures.part c.in_err-bytes.ensures.cause)

pub returns-clause-packet : goal.returns-clause-packet
returns-clause-packet g c =
    let header = c.in_ok-header.ensures in
    let bytes = c.in_ok-bytes.bytes.items in (
      header.0 ++ bytes,
      packet_joined packet_limit g.B.ByteOrder.number_of c.args.ts_resolution c.in_ok-header.header header.0 bytes header.1 c.in_ok-bytes.ensures.count,
      Consumes-trans _ _ _ header.0 bytes header.2 c.in_ok-bytes.ensures.bytes,
    )

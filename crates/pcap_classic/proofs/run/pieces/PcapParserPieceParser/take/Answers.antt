use Rattle.std.proofs.Common.{refl}
use Rattle.std.proofs.lemmas.Result.{err_from_is_err_and}
use Rattle.pcap_items.proofs.Pieces.{front_refused}
use Rattle.pcap_classic.specs.PacketText.{packet_limit, content_of}
use Rattle.pcap_classic.specs.Packets.{capture_format, packet_format}
use Rattle.pcap_classic.specs.Parser.{header_of}
use Rattle.pcap_classic.proofs.run.pieces.PcapParserPieceParser.take.Goals as goal

pub returns-in_err-after-clause-takes : goal.returns-in_err-after-clause-takes
unfolding packet_format
returns-in_err-after-clause-takes c =
    let q = header_of c.args.self.now in
    let e = err_from_is_err_and c.from_residual.result c.from_residual.ensures.1 in
    rw (e.1, e.2) (front_refused (capture_format packet_limit) (λ packet. packet) content_of q q c.args.held.now ⊥ refl c.in_err-after.field-0.0 c.in_err-after.ensures.tells)

pub returns-clause-takes : goal.returns-clause-takes
unfolding packet_format
returns-clause-takes c = record { value = content_of c.in_ok-after.packet; text = c.in_ok-after.ensures.tells; goes = refl; part_is = c.in_ok-into_owned.ensures.packet }

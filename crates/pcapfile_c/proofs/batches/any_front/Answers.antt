use Rattle.std.proofs.Common.{rules, ◌≡◌, true}
use Rattle.std.proofs.lemmas.Result.{err_from_is_err_and}
use Rattle.pcap_core.specs.Answer.{number_in, lacks, faulty, Refuses}
use Rattle.pcap_blocks.specs.ParsedBlock.{BodySays, BodyMayGrow}
use Rattle.pcap_ng.specs.Frames.{framed_of}
use Rattle.pcapfile_c.specs.Batches.{is_packet}
use Rattle.pcapfile_c.proofs.Passages.{packet_refuses}
use Rattle.pcapfile_c.proofs.batches.any_front.Goals as goal

pub returns-in_err-packet-in-EnhancedPacket : goal.returns-in_err-packet-in-EnhancedPacket
returns-in_err-packet-in-EnhancedPacket c =
    let e = c.args.order in
    let b = framed_of c.in_ok-rest.block in
    let refused = c.in_err-packet-in-EnhancedPacket in
    let p = err_from_is_err_and c.from_residual-in_err-packet-in-EnhancedPacket.result c.from_residual-in_err-packet-in-EnhancedPacket.ensures.1 in
    let is : is_packet c.in_ok-rest.block.type_ ≡ true = search rules in
    let x : Refuses (BodyMayGrow (number_in e) b.type_ b.body) (λ n. BodySays (number_in e) b.type_ b.body (lacks n)) (λ fault. BodySays (number_in e) b.type_ b.body (faulty fault)) refused.field-0.0 =
    rw c.in-Borrowed.is refused.ensures in
    rw (p.1, p.2) (packet_refuses e c.args.slice.now b c.in_ok-rest.rest.now c.in_ok-rest.ensures.tells is refused.field-0.0 x)

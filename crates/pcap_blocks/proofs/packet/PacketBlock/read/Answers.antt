use Rattle.std.proofs.Common.{arith}
use Rattle.std.proofs.lemmas.Result.{err_from_is_err_and}
use Rattle.pcap_blocks.specs.Packet.{short}
use Rattle.pcap_core.proofs.Padded.{behind_number, behind_both}
use Rattle.pcap_blocks.proofs.StoredPackets.{packet_fails}
use Rattle.pcap_options.proofs.Growth.{holds_after}
use Rattle.pcap_options.proofs.Refusals.{denies_more}
use Rattle.pcap_blocks.proofs.packet.PacketBlock.read.Goals as goal

pub returns-then-slice-lt20-clause-tells : goal.returns-then-slice-lt20-clause-tells
returns-then-slice-lt20-clause-tells g c = short (omega arith)

pub returns-in_err-rest-clause-tells : goal.returns-in_err-rest-clause-tells
returns-in_err-rest-clause-tells g c =
    let p = err_from_is_err_and c.from_residual.result c.from_residual.ensures.1 in
    let head = behind_both (behind_number c.split_u16-interface_id.ensures.number) (behind_number c.split_u16-drop_count.ensures.number) in
    rw (p.1, p.2) (denies_more c.in_err-rest.field-0.0 (holds_after 4 _ _ _ head) (packet_fails _ _ _ head) c.in_err-rest.ensures.tells)

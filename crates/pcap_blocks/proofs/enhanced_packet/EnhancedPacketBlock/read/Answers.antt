use Rattle.std.proofs.Common.{arith}
use Rattle.std.proofs.lemmas.Result.{err_from_is_err_and}
use Rattle.pcap_blocks.specs.EnhancedPacket.{short}
use Rattle.pcap_core.proofs.Padded.{behind_number}
use Rattle.pcap_blocks.proofs.StoredPackets.{enhanced_fails}
use Rattle.pcap_options.proofs.Growth.{holds_after}
use Rattle.pcap_options.proofs.Refusals.{denies_more}
use Rattle.pcap_blocks.proofs.enhanced_packet.EnhancedPacketBlock.read.Goals as goal

pub returns-then-slice-lt20-clause-tells : goal.returns-then-slice-lt20-clause-tells
returns-then-slice-lt20-clause-tells g c = short (omega arith)

pub returns-in_err-rest-clause-tells : goal.returns-in_err-rest-clause-tells
returns-in_err-rest-clause-tells g c =
    let p = err_from_is_err_and c.from_residual.result c.from_residual.ensures.1 in
    rw (p.1, p.2) (denies_more c.in_err-rest.field-0.0 (holds_after 4 _ _ _ (behind_number c.split_u32-interface_id.ensures.number)) (enhanced_fails _ _ _ (behind_number c.split_u32-interface_id.ensures.number)) c.in_err-rest.ensures.tells)

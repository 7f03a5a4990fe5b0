use Rattle.std.proofs.Common.{subst}
use Rattle.std.proofs.lemmas.Result.{err_from_is_err_and}
use Rattle.pcap_blocks.specs.EnhancedPacket.{Enhanced}
use Rattle.pcap_blocks.specs.ParsedBlock.{EnhancedBody}
use Rattle.pcapfile_merge.specs.TakingBlocks.{IsUnwritten, unwritten}
use Rattle.pcapfile_merge.proofs.made.Made.put.Goals as goal

pub returns-in_err-write-clause-makes : goal.returns-in_err-write-clause-makes
returns-in_err-write-clause-makes c =
    let p = err_from_is_err_and c.from_residual-in_err-write.result c.from_residual-in_err-write.ensures.1 in
    rw (p.1, p.2) (unwritten (subst (λ (x : Enhanced). IsUnwritten (EnhancedBody x) c.in_err-write.field-0.0) c.in_ok-packet.ensures c.in_err-write.ensures))

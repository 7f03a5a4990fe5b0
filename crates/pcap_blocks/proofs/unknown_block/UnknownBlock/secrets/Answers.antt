use Rattle.pcap_blocks.proofs.Secrets.{no_secrets}
use Rattle.pcap_blocks.proofs.unknown_block.UnknownBlock.secrets.Goals as goal

pub returns-in_default : goal.returns-in_default
returns-in_default g c = no_secrets g.B.ByteOrder.number_of c.args.self.now _ _ _ _ (rw c.as_slice-value.ensures at c.split_u32-secrets_type.ensures.number) c.split_u32-len.ensures.number c.in_default.ensures.len

use Rattle.pcap_blocks.proofs.unknown_block.UnknownBlock.decryption_secrets.Goals as goal

pub returns-in-Big : goal.returns-in-Big
returns-in-Big c = rw c.in-Big.is c.secrets.ensures

pub returns-in-Little : goal.returns-in-Little
returns-in-Little c = rw c.in-Little.is c.secrets-in-Little.ensures

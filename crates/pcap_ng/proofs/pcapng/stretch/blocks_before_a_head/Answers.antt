use Rattle.pcap_ng.proofs.pcapng.stretch.blocks_before_a_head.Goals as goal

pub returns-in-Big-clause-ends : goal.returns-in-Big-clause-ends
returns-in-Big-clause-ends c = rw c.in-Big.is c.pass_blocks.ensures.ends

pub returns-in-Little-clause-ends : goal.returns-in-Little-clause-ends
returns-in-Little-clause-ends c = rw c.in-Little.is c.pass_blocks-in-Little.ensures.ends

use Rattle.pcap_tolerant_blocks.proofs.flaw_by_flaw.next_in.Goals as goal

pub returns-in-Big-clause-flaws : goal.returns-in-Big-clause-flaws
returns-in-Big-clause-flaws g c = rw c.in-Big.is c.find_flaw.ensures.flaws

pub returns-in-Little-clause-flaws : goal.returns-in-Little-clause-flaws
returns-in-Little-clause-flaws g c = rw c.in-Little.is c.find_flaw-in-Little.ensures.flaws

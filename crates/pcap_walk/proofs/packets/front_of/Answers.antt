use Rattle.pcap_walk.proofs.packets.front_of.Goals as goal

pub returns-in-Big : goal.returns-in-Big
returns-in-Big c = rw c.in-Big.is c.front_in.ensures

pub returns-in-Little : goal.returns-in-Little
returns-in-Little c = rw c.in-Little.is c.front_in-in-Little.ensures

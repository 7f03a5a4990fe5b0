use Rattle.pcap_written.proofs.writer.encode.Goals as goal

pub returns-in-Big : goal.returns-in-Big
returns-in-Big g c = rw c.in-Big.is c.encode_in.ensures

pub returns-in-Little : goal.returns-in-Little
returns-in-Little g c = rw c.in-Little.is c.encode_in-in-Little.ensures

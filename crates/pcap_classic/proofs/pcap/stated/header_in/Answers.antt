use Rattle.pcap_classic.proofs.pcap.stated.header_in.Goals as goal

pub returns-in-Big : goal.returns-in-Big
returns-in-Big c = record { tells = rw c.in-Big.is c.from_slice.ensures.tells }

pub returns-in-Little : goal.returns-in-Little
returns-in-Little c = record { tells = rw c.in-Little.is c.from_slice-in-Little.ensures.tells }

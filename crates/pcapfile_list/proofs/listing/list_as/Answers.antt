use Rattle.pcapfile_list.proofs.listing.list_as.Goals as goal

pub returns-in-Pcap : goal.returns-in-Pcap
returns-in-Pcap g c = rw c.in-Pcap.is c.list_classic.ensures

pub returns-in-PcapNg : goal.returns-in-PcapNg
returns-in-PcapNg g c = rw (c.in-PcapNg.is, c.exit_at.ensures) c.list_stored.ensures

use Rattle.pcap_options.proofs.packet_option.PacketOption.from_slice.Goals as goal

pub returns-clause-tells : goal.returns-clause-tells
returns-clause-tells g c = c.in_ok-list_from_slice.ensures.tells

use Rattle.pcap_options.proofs.enhanced_option.EnhancedPacketOption.from_slice.Goals as goal

pub returns-clause-tells : goal.returns-clause-tells
returns-clause-tells g c = c.in_ok-list_from_slice.ensures.tells

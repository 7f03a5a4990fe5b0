use Rattle.pcap_tolerant_captures.proofs.Format.{as_is_lawful}
use Rattle.pcap_tolerant_captures.proofs.copy.copy_pcapng_as_is.Goals as goal

pub copy_items-result-requires-clause-lawful : goal.copy_items-result-requires-clause-lawful
copy_items-result-requires-clause-lawful g c = as_is_lawful

pub copy_items-result-requires-clause-stands : goal.copy_items-result-requires-clause-stands
copy_items-result-requires-clause-stands g c = as_is_lawful

pub returns : goal.returns
returns g c = rw (c.copied.ensures, c.err.ensures.value) c.copy_items-result.ensures

-- The numbers of a head of the code.
use Rattle.pcap_classic.specs.PacketText.{Head}
use Rattle.pcap_damaged.specs.declared.heads.Numbers.{Numbers}

-- The head with these numbers.
abbrev pub head_in : Numbers → Head
head_in n = record { seconds = n.seconds; fraction = n.fraction; included = n.included; original = n.original }

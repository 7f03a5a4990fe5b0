use Rattle.std.proofs.Common.{take}
use Rattle.pcap_options.specs.Names.{HasNoZero}
use Rattle.pcap_written.proofs.names.has_zero.Given as goal

abbrev pub invariant-loop-byte : goal.invariant-loop-byte
invariant-loop-byte l = HasNoZero (take l.byte-index l.bytes)

use Rattle.std.proofs.Common.{take}
use Rattle.pcap_options.specs.Names.{HasNoZero}
use Rattle.pcap_options.proofs.names.zero_position.Given as goal

abbrev pub invariant-loop-i : goal.invariant-loop-i
invariant-loop-i l = HasNoZero (take l.i l.bytes)

use Rattle.std.proofs.Math.Nat.{le-max_right}
use Rattle.pcap_classic.specs.PacketText.{packet_limit}
use Rattle.pcap_tolerant.specs.AsIs.{raised}
use Rattle.pcap_tolerant.proofs.Strict.{strict_is}
use Rattle.pcap_tolerant.proofs.laws.strict_reading_is.Goals as goal

pub returns : goal.returns
returns c = λ limit order r. strict_is (raised limit) order r (le-max_right limit packet_limit)

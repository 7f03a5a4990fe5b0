use Rattle.pcap_classic.specs.PacketText.{packet_limit}
use Rattle.pcap_classic.proofs.CaptureFormat.{capture_lawful}
use Rattle.pcap_classic.proofs.Pieces.{header_opening}
use Rattle.test_captures.proofs.counting.fed.Goals as goal

pub feed_pieces-requires-clause-lawful : goal.feed_pieces-requires-clause-lawful
feed_pieces-requires-clause-lawful c = capture_lawful packet_limit

pub feed_pieces-requires-clause-opening : goal.feed_pieces-requires-clause-opening
feed_pieces-requires-clause-opening c = header_opening

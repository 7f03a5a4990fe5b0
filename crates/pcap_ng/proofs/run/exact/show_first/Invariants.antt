use Rattle.std.proofs.Common.{◌≡◌, take}
use Rattle.pcap_items.specs.Window.{bytes_of, shown_of, requests_made}
use Rattle.pcap_items.proofs.Formats.{requests_left}
use Rattle.pcap_items.proofs.Showing.{Showing}
use Rattle.pcap_ng.specs.Blocks.{block_format}
use Rattle.pcap_ng.specs.State.{opening}
use Rattle.pcap_ng.proofs.BlockFormat.{blocks_lawful}
use Rattle.pcap_ng.proofs.run.exact.show_first.Given as goal

abbrev pub invariant-asking : goal.invariant-asking
invariant-asking l = record {
  bytes : bytes_of l.window ≡ bytes_of l.fn.window;
  showing : Showing block_format blocks_lawful opening (bytes_of l.fn.window) 0 (shown_of l.window) (requests_made l.fn.window) (requests_made l.window) 0 l.requests;
}

abbrev pub decreases-asking : goal.decreases-asking
decreases-asking l = requests_left block_format blocks_lawful opening (take (shown_of l.window) (bytes_of l.fn.window))

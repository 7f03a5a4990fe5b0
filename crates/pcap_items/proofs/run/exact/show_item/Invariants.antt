use Rattle.std.proofs.Common.{◌≡◌, ◌-◌, length}
use Rattle.pcap_items.specs.Format.{IsLawful}
use Rattle.pcap_items.specs.Window.{bytes_of, shown_of, requests_made}
use Rattle.pcap_items.proofs.Showing.{Showing}
use Rattle.pcap_items.proofs.run.exact.show_item.Given as goal

abbrev pub invariant-asking : goal.invariant-asking
invariant-asking g l =
    let p = g.P.Items in
    record {
      start_is : l.start ≡ shown_of l.fn.window;
      state : p.state l.parser ≡ p.state l.fn.parser;
      bytes : bytes_of l.window ≡ bytes_of l.fn.window;
      showing : (laws : IsLawful p.format)
          → Showing p.format laws (p.state l.fn.parser) (bytes_of l.fn.window) (shown_of l.fn.window) (shown_of l.window) (requests_made l.fn.window) (requests_made l.window) l.fn.requests l.requests;
    }

abbrev pub decreases-asking : goal.decreases-asking
decreases-asking g l = length (bytes_of l.window) - shown_of l.window

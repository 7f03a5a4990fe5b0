use Rattle.std.proofs.Common.{◌≡◌, ◌≤◌, ◌-◌, length, drop, map, All}
use Rattle.pcap_items.specs.Window.{bytes_of, shown_of, requests_made}
use Rattle.pcap_items.proofs.Showing.{Exacting}
use Rattle.pcap_items.proofs.run.exact.show_items.Given as goal

abbrev pub invariant-loop-window : goal.invariant-loop-window
invariant-loop-window g l =
    let p = g.P.Items in
    record {
      bytes : bytes_of l.window ≡ bytes_of l.fn.window;
      from : shown_of l.fn.window ≤ shown_of l.window;
      exacting : Exacting p.format p.part (p.state l.fn.parser) (p.state l.parser) (map p.view l.items.items) (drop (shown_of l.fn.window) (bytes_of l.fn.window)) (drop (shown_of l.window) (bytes_of l.fn.window))
          (requests_made l.fn.window) (requests_made l.window) l.fn.requests l.requests;
      lent : All p.lent l.items.items;
    }

abbrev pub decreases-loop-window : goal.decreases-loop-window
decreases-loop-window g l = length (bytes_of l.window) - shown_of l.window

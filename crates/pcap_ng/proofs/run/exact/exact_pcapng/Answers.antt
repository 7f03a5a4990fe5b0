use Rattle.std.proofs.Common.{◌≤◌, refl, arith, length-drop}
use Rattle.pcap_items.proofs.Requested.{requests_at_few}
use Rattle.pcap_items.specs.Window.{bytes_of, shown_of}
use Rattle.pcap_ng.specs.Blocks.{block_format}
use Rattle.pcap_ng.specs.Parser.{state_of}
use Rattle.pcap_ng.specs.State.{opening}
use Rattle.pcap_ng.proofs.BlockFormat.{blocks_lawful}
use Rattle.pcap_ng.proofs.Frames.{frame_long}
use Rattle.pcap_ng.proofs.ShownBlocks.{exact_is}
use Rattle.pcap_ng.proofs.run.exact.exact_pcapng.Goals as goal

pub show_items-requires : goal.show_items-requires
show_items-requires c =
    let asked = c.in_ok-parser.ensures.asked in
    let two = requests_at_few block_format opening (bytes_of c.args.window.now) asked.requests asked.asked in
    let bytes = bytes_of c.args.window.now in
    let found = rw c.in-Item.is at c.in_ok-parser.ensures.found in
    let some : 12 ≤ shown_of c.show_first.new.window = omega (arith, frame_long _ _ bytes _ found.1.frame, length-drop (shown_of c.show_first.new.window) bytes) in
    λ k. ((refl, tt), (blocks_lawful, (omega (arith, asked.counted, two), some)))

pub returns-in_ok-run-in-Item-clause-run : goal.returns-in_ok-run-in-Item-clause-run
returns-in_ok-run-in-Item-clause-run c =
    let found = rw c.in-Item.is at c.in_ok-parser.ensures.found in
    let items = rw c.show_first.ensures.bytes at c.in_ok-run-in-Item.ensures.items in
    exact_is _ c.in_ok-run-in-Item.run'.ended (state_of c.in-Item.parser) (bytes_of c.args.window.now) _ _ _ (shown_of c.show_first.new.window) c.show_first.new.requests _ found c.in_ok-parser.ensures.asked
    c.from.ensures items

use Rattle.std.proofs.Common.{[]}
use Rattle.pcap_items.specs.Pieces.{HoldsItems, joined_pieces}
use Rattle.pcap_items.proofs.Pieces.{after_each_more}
use Rattle.pcap_classic.specs.declared.run.PcapRun.{PcapRun}
use Rattle.pcap_classic.specs.HeaderText.{HeaderSays}
use Rattle.pcap_classic.specs.PacketText.{packet_limit}
use Rattle.pcap_classic.specs.Packets.{capture_format}
use Rattle.pcap_classic.specs.Pieces.{HoldsPackets}
use Rattle.pcap_classic.proofs.CaptureFormat.{capture_lawful}
use Rattle.pcap_classic.proofs.Pieces.{header_opening, holds_packets, fed_run}
use Rattle.pcap_classic.proofs.run.pieces.pieces_pcap.Goals as goal

pub feed_pieces-requires-clause-lawful : goal.feed_pieces-requires-clause-lawful
feed_pieces-requires-clause-lawful c = capture_lawful packet_limit

pub feed_pieces-requires-clause-opening : goal.feed_pieces-requires-clause-opening
feed_pieces-requires-clause-opening c = header_opening

pub returns-clause-run : goal.returns-clause-run
returns-clause-run c =
    let fed = c.in_ok-fed.fed in
    let run : PcapRun = record { header = c.header.result.now; packets = fed.items; used = fed.used; rest = fed.rest } in
    fed_run (joined_pieces c.args.pieces.now) fed.parser run c.in_ok-fed.ensures.fed c.header.ensures

pub returns-clause-numbers : goal.returns-clause-numbers
returns-clause-numbers c = after_each_more (HoldsItems HeaderSays (capture_format packet_limit)) HoldsPackets holds_packets [] c.args.pieces.now _ c.in_ok-fed.ensures.numbers

use Rattle.std.proofs.Common.{ℕ, subst}
use Rattle.pcap_core.specs.Codec.{number_bytes}
use Rattle.pcap_items.specs.Writing.{WritesAll}
use Rattle.pcap_classic.specs.Magic.{order_of, resolution_of}
use Rattle.pcap_classic.specs.StatedPackets.{held_packet}
use Rattle.pcap_classic.specs.Written.{record_bytes}
use Rattle.pcap_classic.proofs.StatedPackets.{shown_stands}
use Rattle.pcap_classic.proofs.run.copy.UnderHeaderPutsPacket.put_held.Goals as goal

pub returns-then-held-out : goal.returns-then-held-out
returns-then-held-out g c =
    let held = c.args.held in
    let captured = held_packet held.bytes.now held.head in
    let stands = shown_stands held.from.now held.head held.bytes.now c.requires.held in (
      captured,
      stands,
      subst (λ (n : ℕ). WritesAll (g.W.Write.contents c.args.writer.now) (g.W.Write.contents c.put_text.new.writer)
          (record_bytes (number_bytes (order_of n)) (resolution_of n) captured) c.put_text.result) c.if-held-out.true (c.put_text.ensures captured stands),
    )

use Rattle.std.proofs.Common.{rules, sym}
use Rattle.pcapfile_c.proofs.WithOptions.{packet_same}
use Rattle.pcapfile_c.proofs.putting_with.pcapfile_put_ng_packet_with.Goals as goal

pub returns : goal.returns
returns c =
    packet_same c.in-Some.order c.args.section.now c.args.packet.now c.args.options c.args.room.now c.put_parts.new.room c.args.written.now c.put_parts.new.written c.args.error.now c.put_parts.new.error c.put_parts.result c.put_parts.ensures
    c.packet_head-head.ensures (sym c.in-Some.ensures) c.if-packet-section.false (search rules)

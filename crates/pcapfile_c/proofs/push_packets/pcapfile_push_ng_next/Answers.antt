use Rattle.std.proofs.Common.{rules, ◌≡◌, w32, to_z, of_z}
use Rattle.pcapfile_c.specs.Push.{held_in}
use Rattle.pcapfile_c.proofs.Passing.{others_held, others_none, packet_takes}
use Rattle.pcapfile_c.proofs.push_packets.pcapfile_push_ng_next.Goals as goal

pub returns-clause-taken : goal.returns-clause-taken
returns-clause-taken c q shows =
    let push = c.args.push.now in
    let room = c.args.room.now in
    let lookup = c.in-Some.ensures.lookup.0 in
    let here = c.take_packet-status in
    let z = here.result in
    let same : to_z w32 (of_z w32 z) ≡ z = search rules in
    rw same (packet_takes push q c.args.section.now here.new.section c.args.interfaces.now here.new.interfaces room _ here.new.left.bytes.now c.args.packet.now here.new.packet c.args.error.now here.new.error z lookup (here.ensures.taken q shows))

pub returns-clause-others : goal.returns-clause-others
returns-clause-others c q shows held =
    let here = c.take_packet-status in
    others_held c.args.push.now q here.new.section c.args.interfaces.now here.new.interfaces c.args.room.now _ here.new.left.bytes.now c.in-Some.ensures.lookup.0 (here.ensures.others q shows)

pub returns-then-interfaces-section-clause-others : goal.returns-then-interfaces-section-clause-others
returns-then-interfaces-section-clause-others c q shows held = others_none q c.args.section.now c.args.interfaces.now (held_in c.args.push.now c.args.room.now) shows

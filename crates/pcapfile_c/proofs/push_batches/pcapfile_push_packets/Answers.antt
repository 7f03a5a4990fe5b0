use Rattle.std.proofs.Common.{rules, ◌≡◌, w32, to_z, of_z}
use Rattle.pcapfile_c.proofs.PushedPackets.{packets_end, packets_take, rest_fits}
use Rattle.pcapfile_c.proofs.push_batches.pcapfile_push_packets.Goals as goal

pub overflow_sub-push : goal.overflow_sub-push
overflow_sub-push c =
    let push = c.args.push.now in
    let held = c.in-Some.held.now in
    let here = c.take_front_packets-status in
    let lookup = c.in-Some.ensures.lookup.0 in
    let o = packets_end push.header here.new.header held here.new.left.bytes.now c.args.packets.now here.new.packets here.new.taken c.args.error.now here.new.error here.result here.ensures in
    rest_fits push.begin push.end c.args.room.now held o.0 here.new.left.bytes.now lookup.2 o.1

pub returns : goal.returns
returns c =
    let push = c.args.push.now in
    let room = c.args.room.now in
    let lookup = c.in-Some.ensures.lookup.0 in
    let here = c.take_front_packets-status in
    let z = here.result in
    let same : to_z w32 (of_z w32 z) ≡ z = search rules in
    rw same (packets_take push here.new.header room c.in-Some.held.now here.new.left.bytes.now c.args.packets.now here.new.packets here.new.taken c.args.error.now here.new.error z lookup here.ensures)

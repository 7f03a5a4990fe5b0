use Rattle.std.proofs.Common.{rules, ◌≡◌, w32, to_z, of_z}
use Rattle.pcapfile_c.proofs.Pushed.{next_takes}
use Rattle.pcapfile_c.proofs.push.pcapfile_push_next.Goals as goal

pub returns : goal.returns
returns c =
    let push = c.args.push.now in
    let room = c.args.room.now in
    let lookup = c.in-Some.ensures.lookup.0 in
    let here = c.take_front-status in
    let z = here.result in
    let same : to_z w32 (of_z w32 z) ≡ z = search rules in
    rw same (next_takes push here.new.header room c.in-Some.held.now here.new.left.bytes.now c.args.packet.now here.new.packet c.args.error.now here.new.error z lookup here.ensures)

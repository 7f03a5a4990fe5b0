use Rattle.std.proofs.Common.{rules, ◌≡◌, w32, to_z, of_z}
use Rattle.pcapfile_c.proofs.EitherFormat.{front_found, front_refused}
use Rattle.pcapfile_c.proofs.any.take_any_packet.Goals as goal

pub returns-then-status-ne0 : goal.returns-then-status-ne0
returns-then-status-ne0 c =
    let here = c.take_front-status in
    let z = here.result in
    let same : to_z w32 (of_z w32 z) ≡ z = search rules in
    rw same (front_refused c.args.header.now here.new.header c.args.left.now.bytes.now here.new.left.bytes.now _ here.new.packet c.args.error.now here.new.error z here.ensures c.if-status-ne0.true c.args.packet.now)

pub returns : goal.returns
returns c =
    let here = c.take_front-status in
    front_found c.args.header.now here.new.header c.args.left.now.bytes.now here.new.left.bytes.now _ here.new.packet c.args.error.now here.new.error here.result here.ensures c.if-status-ne0.false c.args.packet.now c.of_capture.result c.of_capture.ensures

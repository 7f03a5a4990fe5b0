use Rattle.std.proofs.Common.{rules, ◌≡◌, w32, to_z, of_z}
use Rattle.pcapfile_c.proofs.PushedBlocks.{block_takes, order_refuses}
use Rattle.pcapfile_c.proofs.push_blocks.pcapfile_push_block.Goals as goal

pub returns-clause-taken : goal.returns-clause-taken
returns-clause-taken c q shows =
    let push = c.args.push.now in
    let room = c.args.room.now in
    let lookup = c.in-Some.ensures.lookup.0 in
    let here = c.pcapfile_take_block-status in
    let z = here.result in
    let same : to_z w32 (of_z w32 z) ≡ z = search rules in
    rw same (block_takes push c.args.section.now here.new.section room _ here.new.left c.args.block.now here.new.block c.args.error.now here.new.error z lookup q (here.ensures.taken q shows))

pub returns-clause-refused : goal.returns-clause-refused
returns-clause-refused c none =
    let push = c.args.push.now in
    let room = c.args.room.now in
    let lookup = c.in-Some.ensures.lookup.0 in
    let here = c.pcapfile_take_block-status in
    let z = here.result in
    let same : to_z w32 (of_z w32 z) ≡ z = search rules in
    rw same (order_refuses push c.args.section.now here.new.section room _ here.new.left c.args.block.now here.new.block c.args.error.now here.new.error z lookup (here.ensures.refused none))

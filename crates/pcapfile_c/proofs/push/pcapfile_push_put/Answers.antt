use Rattle.std.proofs.Common.{rules, ◌≤◌, ◌+◌, length, refl, inl, arith}
use Rattle.pcapfile_c.proofs.Pushed.{put_held}
use Rattle.pcapfile_c.proofs.push.pcapfile_push_put.Goals as goal

pub returns : goal.returns
returns c =
    let push = c.args.push.now in
    let room = c.args.room.now in
    let lies : (push.begin ≤ push.end) × (push.end ≤ length room) = search rules in
    let fits : push.end + c.args.count ≤ length room = search rules in
    inl (refl, refl, refl, refl, (omega (arith, lies.0), fits), put_held push.begin push.end c.args.count room lies.0 fits)

use Rattle.std.proofs.Common.{◌-◌, take, drop, ap, ◌∙◌, refl}
use Rattle.pcapfile_c.proofs.Pushed.{moved_held, moved_behind}
use Rattle.pcapfile_c.proofs.push.PcapfilePush.move_to_front.Goals as goal

pub returns : goal.returns
returns c =
    let b = c.args.self.now.begin in
    let e = c.args.self.now.end in
    let room = c.args.room.now in
    record {
      header = refl;
      front = refl;
      end = refl;
      held = ap (take (e - b)) c.copy_within.ensures.after ∙ moved_held b e room c.requires.0 c.requires.1;
      behind = ap (drop (e - b)) c.copy_within.ensures.after ∙ moved_behind b e room c.requires.0 c.requires.1;
      long = c.copy_within.ensures.len;
    }

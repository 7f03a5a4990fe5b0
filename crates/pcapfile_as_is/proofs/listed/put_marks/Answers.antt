use Rattle.std.proofs.Common.{rules, ◌≡◌, ◌≤◌, length, drop, [], refl, drop_of_length-le}
use Rattle.pcapfile_as_is.proofs.listed.put_marks.Goals as goal

pub returns-clause-text : goal.returns-clause-text
returns-clause-text c =
    let long : length c.args.room.now ≤ 126 = search rules in
    let none : drop 126 c.args.room.now ≡ [] = drop_of_length-le c.args.room.now {i = 126} long in
    rw (c.put_mark.ensures.text, c.put_mark-start-3.ensures.text, c.put_mark-start-2.ensures.text, c.put_mark-start.ensures.text, c.put_byte-start.ensures.text, none) refl

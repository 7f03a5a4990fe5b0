use Rattle.std.proofs.Common.{rules, ◌≡◌, ◌≤◌, length, drop, [], refl, drop_of_length-le}
use Rattle.pcapfile_list.proofs.lines.make_refused_line.Goals as goal

pub returns-clause-line : goal.returns-clause-line
returns-clause-line c =
    let long : length c.args.room.now ≤ 126 = search rules in
    let none : drop 126 c.args.room.now ≡ [] = drop_of_length-le c.args.room.now {i = 126} long in
    rw (c.put_number.ensures.text, c.put_word-start.ensures.text, none) refl

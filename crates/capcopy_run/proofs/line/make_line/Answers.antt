use Rattle.std.proofs.Common.{◌≡◌, ◌≤◌, [], length, refl, rules, drop, drop_of_length-le}
use Rattle.capcopy_run.proofs.PacketLines.{line_made}
use Rattle.capcopy_run.proofs.line.make_line.Goals as goal

pub returns-clause-line : goal.returns-clause-line
returns-clause-line c =
    let long : length c.args.room.now ≤ 126 = search rules in
    let none : drop 126 c.args.room.now ≡ [] = drop_of_length-le c.args.room.now {i = 126} long in
    let original : c.from.result ≡ c.args.header.orig_len = search rules in
    let included : c.from-2.result ≡ c.args.header.incl_len = search rules in
    line_made c.args.index _ _ _ c.args.header _ _ _ _ _ _ _ _ _ _ _ original included refl none c.put_byte-start.ensures.text c.put_number-start.ensures.text c.put_byte-start-2.ensures.text
    c.put_number-start-2.ensures.text c.put_byte-start-3.ensures.text c.put_nine_digits-start.ensures.text c.put_byte-start-4.ensures.text c.put_seconds-start.ensures.text
    c.put_byte-start-5.ensures.text c.put_number.ensures.text

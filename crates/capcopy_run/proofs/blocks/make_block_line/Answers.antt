use Rattle.std.proofs.Common.{◌≡◌, ◌≤◌, [], length, rules, drop, drop_of_length-le}
use Rattle.pcap_ng.specs.Frames.{framed_of}
use Rattle.capcopy_run.proofs.BlockLists.{block_line_made}
use Rattle.capcopy_run.proofs.blocks.make_block_line.Goals as goal

pub returns-clause-line : goal.returns-clause-line
returns-clause-line c =
    let long : length c.args.room.now ≤ 126 = search rules in
    let none : drop 126 c.args.room.now ≡ [] = drop_of_length-le c.args.room.now {i = 126} long in
    let len : c.from.result ≡ c.args.block.now.initial_len = search rules in
    block_line_made c.args.index _ (framed_of c.args.block.now) c.args.word.now _ _ _ _ _ _ _ _ _ c.requires len none c.put_byte-start.ensures.text c.put_word-start.ensures.text
    c.put_byte-start-2.ensures.text c.put_number-start.ensures.text c.put_byte-start-3.ensures.text c.put_kind-start.ensures.text c.put_byte-start-4.ensures.text c.put_number.ensures.text

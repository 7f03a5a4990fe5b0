use Rattle.std.proofs.Common.{rules, ◌≡◌, ◌≤◌, ℕ, List, [], length, drop, drop_of_length-le, map, arith, ap, refl, ◌∙◌}
use Rattle.std.specs.Prelude.{codes}
use Rattle.pcap_blocks.specs.InterfaceDescription.{interface_of}
use Rattle.pcap_blocks.specs.ParsedBlock.{body_of}
use Rattle.pcapfile_run.specs.BlockPackets.{in_block}
use Rattle.pcapfile_run.specs.PacketTexts.{stored_line}
use Rattle.pcapfile_list.proofs.PacketLines.{no_line, some_line}
use Rattle.pcapfile_list.proofs.lines.make_body_line.Goals as goal

pub returns-in_default : goal.returns-in_default
returns-in_default c =
    let long : length c.args.room.now ≤ 126 = search rules in
    let none : drop 126 c.args.room.now ≡ [] = drop_of_length-le c.args.room.now {i = 126} long in
    record {
      within = omega arith;
      line = no_line (map interface_of c.args.interfaces.now) c.args.number (body_of c.args.parsed.now) (drop 126 c.args.room.now) c.in_default.ensures none;
    }

pub returns-clause-line : goal.returns-clause-line
returns-clause-line c =
    let long : length c.args.room.now ≤ 126 = search rules in
    let none : drop 126 c.args.room.now ≡ [] = drop_of_length-le c.args.room.now {i = 126} long in
    let ends : drop c.put_byte-end.result c.put_byte-end.new.room ≡ codes "\n" = rw (c.put_byte-end.ensures.text, none) refl in
    let line = c.put_packet.ensures.line in
    some_line (map interface_of c.args.interfaces.now) c.args.number (body_of c.args.parsed.now) _ (in_block c.in-Some.packet) c.in-Some.ensures
    (line.0, rw (← c.interface_at-interface.ensures) line.1, line.2 ∙ ap (λ (l : List ℕ). stored_line c.args.number line.0 (length c.in-Some.packet.bytes.now) c.in-Some.packet.original_len c.in-Some.packet.interface l) ends)

use Rattle.std.proofs.Common.{◌≡◌, ◌-◌, [], length, drop, ap, sym, ◌∙◌}
use Rattle.pcap_items.specs.Pieces.{Reaches}
use Rattle.pcap_items.proofs.Pieces.{reaches_first}
use Rattle.pcap_items.proofs.run.pieces.opened.Goals as goal

pub returns-in_ok-rest-in-Ok-clause-waiting : goal.returns-in_ok-rest-in-Ok-clause-waiting
returns-in_ok-rest-in-Ok-clause-waiting g c = λ empty.
    let s = c.args.held.now.items in
    let q = g.P.PieceParser.state c.in-Ok.parser in
    let after = c.in-Ok.after.now in
    let told = rw (c.in-Ok.is, c.as_slice.ensures.value) at c.open.ensures in
    let first : Reaches (g.P.PieceParser.opens c.args.setting) g.P.PieceParser.format g.P.PieceParser.part q [] s (drop (length s - length after) s) =
    reaches_first (g.P.PieceParser.opens c.args.setting) c.requires.opening g.P.PieceParser.format c.requires.lawful g.P.PieceParser.part g.P.PieceParser.state q s after told in
    let len : c.len.result ≡ length s = c.len.ensures ∙ sym c.as_slice.ensures.len ∙ ap length c.as_slice.ensures.value in
    let left : drop (length s - length after) s ≡ c.drop_front.new.held.items = rw (← len) (sym c.drop_front.ensures) in
    c.in_ok-rest-in-Ok.ensures.waiting c.args.setting s (rw (empty, ← left) first)

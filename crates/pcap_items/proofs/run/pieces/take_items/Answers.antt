use Rattle.std.proofs.Common.{◌≡◌, ◌∷◌, [], ◌++◌, length, map, ap, sym, ◌∙◌, arith}
use Rattle.std.proofs.lemmas.List.{map_push}
use Rattle.std.proofs.lemmas.List.Elements.{All-push}
use Rattle.pcap_items.proofs.Pieces.{item_shorter, reaches_item}
use Rattle.pcap_items.proofs.run.pieces.take_items.Goals as goal

pub loop-after-smaller : goal.loop-after-smaller
loop-after-smaller g c =
    let held = c.loop-after.held.items in
    let told = rw (c.in-Ok.is, c.split_at.ensures.back, c.as_slice.ensures.value) at c.take.ensures.takes in
    let less = item_shorter g.P.PieceParser.format c.requires.lawful g.P.PieceParser.part _ _ _ held c.in-Ok.after.now c.loop-after.at told in
    let len : c.len.result ≡ length held = c.len.ensures ∙ sym c.as_slice.ensures.len ∙ ap length c.as_slice.ensures.value in
    omega (arith, less, len)

pub loop-after-preserved : goal.loop-after-preserved
loop-after-preserved g c =
    let held = c.loop-after.held.items in
    let ws = map g.P.PieceParser.view c.loop-after.items.items in
    let w = g.P.PieceParser.view c.in-Ok.item in
    let told = rw (c.in-Ok.is, c.split_at.ensures.back, c.as_slice.ensures.value) at c.take.ensures.takes in
    let len : c.len.result ≡ length held = c.len.ensures ∙ sym c.as_slice.ensures.len ∙ ap length c.as_slice.ensures.value in
    let e : map g.P.PieceParser.view c.push.new.self.items ≡ ws ++ w ∷ [] = rw c.in_ok-push-in-Ok.ensures.items (map_push g.P.PieceParser.view c.loop-after.items.items c.in-Ok.item) in
    record {
      within = omega (arith, len);
      reached = λ setting s r. rw (e, len) (reaches_item (g.P.PieceParser.opens setting) g.P.PieceParser.format c.requires.lawful g.P.PieceParser.part _ _ ws w s held c.in-Ok.after.now c.loop-after.at (c.loop-after.invariant.reached setting s r) told);
      owned = λ o. rw c.in_ok-push-in-Ok.ensures.items (All-push g.P.PieceParser.owned c.loop-after.items.items c.in-Ok.item (c.loop-after.invariant.owned o) c.in-Ok.ensures.owned);
    }

use Rattle.std.proofs.Common.{◌≡◌, ◌≤◌, ◌<◌, ◌+◌, ◌^◌, ◌∷◌, [], ◌++◌, length, drop, map, refl, ap, ◌∙◌, arith, length-drop}
use Rattle.std.proofs.lemmas.Grind.{common_steps}
use Rattle.std.proofs.lemmas.Result.{err_from_is_err_and}
use Rattle.std.proofs.lemmas.List.{map_push, length-take-le}
use Rattle.std.proofs.lemmas.List.Elements.{All-push}
use Rattle.pcap_items.specs.Window.{bytes_of, shown_of, requests_made}
use Rattle.pcap_items.proofs.Items.{grows_list, grows_parser, leads_shorter}
use Rattle.pcap_items.proofs.Showing.{exacting_none, exacting_item, exacting_rest, exacting_texts, exacting_few, exacting_long}
use Rattle.pcap_items.proofs.run.exact.show_items.Goals as goal

pub loop-window-init : goal.loop-window-init
loop-window-init g c =
    let p = g.P.Items in
    let bytes = bytes_of c.args.window.now in
    let start = shown_of c.args.window.now in
    record {
      bytes = refl;
      from = omega arith;
      exacting = rw c.new-items.ensures.items (exacting_none p.format p.part (p.state c.args.parser.now) (drop start bytes) (requests_made c.args.window.now) c.args.requests.now);
      lent = rw c.new-items.ensures.items (λ k d lt. absurd (omega (arith, lt)));
    }

pub show_item-requires : goal.show_item-requires
show_item-requires g c =
    let bytes = bytes_of c.args.window.now in
    let few = exacting_few c.loop-window.invariant.exacting in
    let long = exacting_long c.loop-window.invariant.exacting c.requires.lawful in
    let small : length c.seen-used.result.now < 9223372036854775808 = omega (arith, c.seen-used.type_inv) in
    let shown : length c.seen-used.result.now ≡ shown_of c.loop-window.window = ap length c.seen-used.ensures.seen ∙ length-take-le _ _ c.seen-used.ensures.within in
    let room : c.loop-window.requests + 3 < 2 ^ 64 = omega (
      arith,
      few,
      long,
      small,
      shown,
      c.loop-window.invariant.from,
      c.requires.few,
      c.requires.some,
      length-drop (shown_of c.args.window.now) bytes,
      length-drop (shown_of c.loop-window.window) bytes,
      c.seen-used.ensures.within,
      ap length c.loop-window.invariant.bytes,
    ) in
    λ k. ((refl, tt), (c.requires.lawful, room))

pub loop-window-smaller : goal.loop-window-smaller
loop-window-smaller g c =
    let p = g.P.Items in
    let found = rw c.in-Item.is at c.in_ok-item.ensures.found in
    let less = leads_shorter p.format p.part c.requires.lawful _ _ _ _ _ found in
    let bytes = bytes_of c.loop-window.window in
    omega (arith, less, length-drop (shown_of c.loop-window.window) bytes, length-drop (shown_of c.show_item.new.window) bytes, ap length c.show_item.ensures.bytes)

pub loop-window-preserved : goal.loop-window-preserved
loop-window-preserved g c =
    let p = g.P.Items in
    let bytes = bytes_of c.args.window.now in
    let ws = map p.view c.loop-window.items.items in
    let w = p.view c.in-Item.item in
    let found = rw (c.in-Item.is, c.loop-window.invariant.bytes) at c.in_ok-item.ensures.found in
    let asked = rw c.loop-window.invariant.bytes at c.in_ok-item.ensures.asked in
    let lent = rw c.in-Item.is at c.in_ok-item.ensures.lent in
    let less = leads_shorter p.format p.part c.requires.lawful _ _ _ _ _ found in
    let e : map p.view c.push.new.self.items ≡ ws ++ w ∷ [] = rw c.in_ok-push-in-Item.ensures.items (map_push p.view c.loop-window.items.items c.in-Item.item) in
    record {
      bytes = c.show_item.ensures.bytes ∙ c.loop-window.invariant.bytes;
      from = omega (arith, c.loop-window.invariant.from, less, length-drop (shown_of c.loop-window.window) bytes, length-drop (shown_of c.show_item.new.window) bytes);
      exacting = rw e (exacting_item c.loop-window.invariant.exacting asked found);
      lent = rw c.in_ok-push-in-Item.ensures.items (All-push p.lent c.loop-window.items.items c.in-Item.item c.loop-window.invariant.lent lent);
    }

pub returns-in-Needs-clause-items : goal.returns-in-Needs-clause-items
returns-in-Needs-clause-items g c =
    let bytes = bytes_of c.args.window.now in
    let shown = shown_of c.loop-window.window in
    let found = rw (c.in-Needs.is, c.loop-window.invariant.bytes) at c.in_ok-item.ensures.found in
    let asked = rw c.loop-window.invariant.bytes at c.in_ok-item.ensures.asked in
    let within : shown ≤ length bytes = omega (arith, c.seen-used.ensures.within, ap length c.loop-window.invariant.bytes) in
    let left : shown < length (bytes_of c.loop-window.window) = grind (arith, common_steps) in
    let some : 0 < length (drop shown bytes) = omega (arith, left, ap length c.loop-window.invariant.bytes, length-drop shown bytes) in
    let used : length c.seen-used.result.now ≡ shown = ap length c.seen-used.ensures.seen ∙ length-take-le _ _ c.seen-used.ensures.within in
    rw (used, found.0) (exacting_rest c.loop-window.invariant.exacting refl refl within some asked (found.1, some))

pub returns-in-Refused-clause-items : goal.returns-in-Refused-clause-items
returns-in-Refused-clause-items g c =
    let bytes = bytes_of c.args.window.now in
    let shown = shown_of c.loop-window.window in
    let found = rw (c.in-Refused.is, c.loop-window.invariant.bytes) at c.in_ok-item.ensures.found in
    let asked = rw c.loop-window.invariant.bytes at c.in_ok-item.ensures.asked in
    let within : shown ≤ length bytes = omega (arith, c.seen-used.ensures.within, ap length c.loop-window.invariant.bytes) in
    let left : shown < length (bytes_of c.loop-window.window) = grind (arith, common_steps) in
    let some : 0 < length (drop shown bytes) = omega (arith, left, ap length c.loop-window.invariant.bytes, length-drop shown bytes) in
    let used : length c.seen-used.result.now ≡ shown = ap length c.seen-used.ensures.seen ∙ length-take-le _ _ c.seen-used.ensures.within in
    rw (used, found.0) (exacting_rest c.loop-window.invariant.exacting refl refl within some asked found.1)

pub returns-in_err-item-clause-memory : goal.returns-in_err-item-clause-memory
returns-in_err-item-clause-memory g c =
    let p = g.P.Items in
    let bytes = bytes_of c.args.window.now in
    let grown = rw c.loop-window.invariant.bytes at c.in_err-item.ensures.memory in
    let e = err_from_is_err_and c.from_residual.result c.from_residual.ensures.1 in
    rw e.1 (grows_parser p.format p.part p.grows (p.state c.args.parser.now) (p.state c.loop-window.parser) (map p.view c.loop-window.items.items) (drop (shown_of c.args.window.now) bytes)
    (drop (shown_of c.loop-window.window) bytes) grown.0 grown.1 (exacting_texts c.loop-window.invariant.exacting) grown.2 grown.3)

pub returns-in_err-push-in-Item-clause-memory : goal.returns-in_err-push-in-Item-clause-memory
returns-in_err-push-in-Item-clause-memory g c =
    let p = g.P.Items in
    let bytes = bytes_of c.args.window.now in
    let found = rw (c.in-Item.is, c.loop-window.invariant.bytes) at c.in_ok-item.ensures.found in
    let e = err_from_is_err_and c.from_residual-in_err-push-in-Item.result c.from_residual-in_err-push-in-Item.ensures.1 in
    rw e.1 (grows_list p.format p.part p.grows (p.state c.args.parser.now) (p.state c.loop-window.parser) (p.state c.show_item.new.parser) (map p.view c.loop-window.items.items) (p.view c.in-Item.item)
    (drop (shown_of c.args.window.now) bytes) (drop (shown_of c.loop-window.window) bytes) _ (exacting_texts c.loop-window.invariant.exacting) found)

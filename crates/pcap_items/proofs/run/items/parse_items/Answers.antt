use Rattle.std.proofs.Common.{◌≡◌, ◌<◌, ◌∷◌, [], ◌++◌, length, map, arith}
use Rattle.std.proofs.lemmas.Grind.{common_steps}
use Rattle.std.proofs.lemmas.List.{map_push}
use Rattle.std.proofs.lemmas.Result.{err_from_is_err_and}
use Rattle.std.proofs.lemmas.List.Elements.{All-push}
use Rattle.pcap_items.proofs.Items.{grows_list, leads_more, leads_shorter}
use Rattle.pcap_items.proofs.run.items.parse_items.Goals as goal

pub loop-left-smaller : goal.loop-left-smaller
loop-left-smaller g c =
    let p = g.P.Items in
    leads_shorter p.format p.part c.requires.lawful (p.state c.loop-left.parser) (p.state c.next_item.new.self) (p.view c.in-Item.item) c.loop-left.left.now c.in-Item.after.now (rw c.in-Item.is at c.in_ok-after.ensures.finds)

pub loop-left-preserved : goal.loop-left-preserved
loop-left-preserved g c =
    let p = g.P.Items in
    let ws = map p.view c.loop-left.items.items in
    let w = p.view c.in-Item.item in
    let left = c.loop-left.left.now in
    let after = c.in-Item.after.now in
    let found = rw c.in-Item.is at c.in_ok-after.ensures.finds in
    let lent = rw c.in-Item.is at c.in_ok-after.ensures.lent in
    let e : map p.view c.push.new.self.items ≡ ws ++ w ∷ [] = rw c.in_ok-push-in-Item.ensures.items (map_push p.view c.loop-left.items.items c.in-Item.item) in
    record {
      leads = rw e (leads_more p.format p.part (p.state c.args.parser.now) (p.state c.loop-left.parser) (p.state c.next_item.new.self) ws w c.args.bytes.now left after c.loop-left.invariant.leads found);
      lent = rw c.in_ok-push-in-Item.ensures.items (All-push p.lent c.loop-left.items.items c.in-Item.item c.loop-left.invariant.lent lent);
      shorter = omega (arith, c.loop-left.invariant.shorter, leads_shorter p.format p.part c.requires.lawful (p.state c.loop-left.parser) (p.state c.next_item.new.self) w left after found);
    }

pub returns-in_err-push-in-Item-clause-memory : goal.returns-in_err-push-in-Item-clause-memory
returns-in_err-push-in-Item-clause-memory g c =
    let p = g.P.Items in
    let found = rw c.in-Item.is at c.in_ok-after.ensures.finds in
    let e = err_from_is_err_and c.from_residual-in_err-push-in-Item.result c.from_residual-in_err-push-in-Item.ensures.1 in
    rw e.1 (grows_list p.format p.part p.grows (p.state c.args.parser.now) (p.state c.loop-left.parser) (p.state c.next_item.new.self) (map p.view c.loop-left.items.items) (p.view c.in-Item.item)
    c.args.bytes.now c.loop-left.left.now c.in-Item.after.now c.loop-left.invariant.leads found)

pub returns-in-Needs-clause-front : goal.returns-in-Needs-clause-front
returns-in-Needs-clause-front g c =
    let p = g.P.Items in
    let found = rw c.in-Needs.is at c.in_ok-after.ensures.finds in
    let some : 0 < length c.loop-left.left.now = grind (arith, common_steps) in
    record {
      left = c.loop-left.left.now;
      leads = rw found.0 c.loop-left.invariant.leads;
      used_is = omega (arith, c.loop-left.invariant.shorter);
      ends = rw found.0 (found.1, some);
    }

pub returns-in-Refused-clause-front : goal.returns-in-Refused-clause-front
returns-in-Refused-clause-front g c =
    let found = rw c.in-Refused.is at c.in_ok-after.ensures.finds in
    record {
      left = c.loop-left.left.now;
      leads = rw found.0 c.loop-left.invariant.leads;
      used_is = omega (arith, c.loop-left.invariant.shorter);
      ends = rw found.0 found.1;
    }

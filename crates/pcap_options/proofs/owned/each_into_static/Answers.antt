use Rattle.std.proofs.lemmas.List.Elements.{All-push}
use Rattle.pcap_core.proofs.Kept.{zip_push, moves_on}
use Rattle.pcap_options.proofs.owned.each_into_static.Goals as goal

pub loop-item-preserved : goal.loop-item-preserved
loop-item-preserved g c = record {
  same = rw c.in_ok-push.ensures.items (zip_push _ _ _ _ _ c.loop-item.invariant.same c.in_ok-into_static.ensures.same);
  owned = rw c.in_ok-push.ensures.items (All-push g.T.IntoStatic.is_owned _ _ c.loop-item.invariant.owned c.in_ok-into_static.ensures.owned);
  rest = moves_on c.loop-item.yielded _ _ _ c.in-Some.item c.loop-item.invariant.rest c.in-Some.ensures.steps.0;
}

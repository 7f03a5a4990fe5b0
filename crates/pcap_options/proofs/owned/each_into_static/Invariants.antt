use Rattle.std.proofs.Common.{◌≡◌, ◌++◌, All}
use Rattle.std.specs.List.{AllZip}
use Rattle.std.specs.Vec.Iter.{into_iter_items}
use Rattle.pcap_options.proofs.owned.each_into_static.Given as goal

abbrev pub invariant-loop-item : goal.invariant-loop-item
invariant-loop-item g l = record {
  same : AllZip g.T.IntoStatic.is_same l.yielded l.kept.items;
  owned : All g.T.IntoStatic.is_owned l.kept.items;
  rest : l.yielded ++ into_iter_items l.item-iterator ≡ l.fn.items.items;
}

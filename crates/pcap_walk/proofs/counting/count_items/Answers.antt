use Rattle.pcap_walk.specs.declared.counting.Never.{Never}
use Rattle.pcap_walk.specs.declared.walking.Ended.TheVariants.{AtEnd, AtMost, Refused}
use Rattle.pcap_walk.proofs.Counted.{counts_walked}
use Rattle.pcap_walk.proofs.counting.count_items.Goals as goal

pub returns-in-AtEnd : goal.returns-in-AtEnd
returns-in-AtEnd g c = record {
  counts = counts_walked Never g.F.Walker.value (g.F.Walker.format (g.F.Walker.setting c.args.walker.now)) (λ stop. ⊥) (g.F.Walker.state c.args.walker.now) _ _ _ _ _ _ _ _ _ _ AtEnd c.requires.none_yet c.requires.room (λ x. x) c.in-AtEnd.ensures;
}

pub returns-in-AtMost : goal.returns-in-AtMost
returns-in-AtMost g c = record {
  counts = counts_walked Never g.F.Walker.value (g.F.Walker.format (g.F.Walker.setting c.args.walker.now)) (λ stop. ⊥) (g.F.Walker.state c.args.walker.now) _ _ _ _ _ _ _ _ _ _ AtMost c.requires.none_yet c.requires.room (λ x. x) c.in-AtMost.ensures;
}

pub returns-in-Refused : goal.returns-in-Refused
returns-in-Refused g c = record {
  counts = counts_walked Never g.F.Walker.value (g.F.Walker.format (g.F.Walker.setting c.args.walker.now)) (λ stop. ⊥) (g.F.Walker.state c.args.walker.now) _ _ _ _ _ _ _ _ _ _ (Refused c.in-Refused.error) c.requires.none_yet c.requires.room (λ x. x) c.in-Refused.ensures;
}

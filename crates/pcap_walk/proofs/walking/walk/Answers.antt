use Rattle.std.proofs.Common.{◌∙◌, refl}
use Rattle.std.proofs.KnownBytes.{Keeps-refl}
use Rattle.pcap_walk.specs.Walks.{does_of}
use Rattle.pcap_walk.proofs.Walks.{walks_none, walks_all, ends_behind}
use Rattle.pcap_walk.proofs.walking.walk.Goals as goal

pub loop-walked-init : goal.loop-walked-init
loop-walked-init g c = record {
  so_far = walks_none (g.F.Walker.format (g.F.Walker.setting c.args.walker.now)) (does_of g.F.Walker.value g.S.Sink.wants g.S.Sink.gives) _ _ c.args.walked.now.items _ _ _ (Keeps-refl _);
  same = refl;
  between = c.requires.between;
  unfailed = c.requires.unfailed;
  within = c.requires.few;
}

pub returns-in-Some : goal.returns-in-Some
returns-in-Some g c =
    let turn = rw c.loop-walked.invariant.same at c.in-Some.ensures.turn in
    ends_behind (g.F.Walker.format (g.F.Walker.setting c.args.walker.now)) (does_of g.F.Walker.value g.S.Sink.wants g.S.Sink.gives) c.requires.lawful g.S.Sink.is_unready g.S.Sink.wants _ (g.F.Walker.state c.loop-walked.walker) _ _ _ _ c.args.most c.args.walked.now.items c.loop-walked.walked.items _ _ _ _ _ _ _ c.in-Some.ended
    c.loop-walked.invariant.so_far turn

pub loop-walked-preserved : goal.loop-walked-preserved
loop-walked-preserved g c =
    let turn = rw (c.loop-walked.invariant.same, c.in_default.is) at c.walk_turn.ensures.turn in
    record {
      so_far = walks_all (g.F.Walker.format (g.F.Walker.setting c.args.walker.now)) (does_of g.F.Walker.value g.S.Sink.wants g.S.Sink.gives) c.requires.lawful _ (g.F.Walker.state c.loop-walked.walker) _ _ _ _ c.args.walked.now.items c.loop-walked.walked.items c.walk_turn.new.walked.items _ _ _ _ _ _ c.loop-walked.invariant.so_far turn.0;
      same = c.walk_turn.ensures.same ∙ c.loop-walked.invariant.same;
      between = c.walk_turn.ensures.between c.in_default.is;
      unfailed = turn.1;
      within = turn.3;
    }

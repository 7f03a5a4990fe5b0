use Rattle.std.proofs.Common.{◌∙◌, refl, sym, arith}
use Rattle.pcap_walk.specs.Walks.{does_of}
use Rattle.pcap_walk.proofs.Walks.{meets_none, meets_more, meets_stop}
use Rattle.pcap_walk.proofs.walking.walk_shown.Goals as goal

pub loop-items-init : goal.loop-items-init
loop-items-init g c = record { met = meets_none (g.F.Walker.format (g.F.Walker.setting c.args.walker.now)) (does_of g.F.Walker.value g.S.Sink.wants g.S.Sink.gives) _ _ _ _ _; more = omega arith; within = c.requires.few }

pub returns-in-Err-clause-meets : goal.returns-in-Err-clause-meets
returns-in-Err-clause-meets g c =
    let stands = c.in-Some.ensures in (
      rw c.split_at.ensures.back (meets_stop (g.F.Walker.format (g.F.Walker.setting c.args.walker.now)) (does_of g.F.Walker.value g.S.Sink.wants g.S.Sink.gives) c.requires.lawful (g.F.Walker.state c.args.walker.now) c.args.shown.now c.loop-items.rest.now c.in-Some.field-0.size _ _ _ _ _ _ _ _ _ _
          c.loop-items.invariant.met stands.within stands.text (c.args.walker.now, c.in-Some.field-0.head, refl, sym c.wants.ensures ∙ c.if-not-wants.false, rw c.split_at.ensures.front at c.in-Err.ensures)),
      c.loop-items.invariant.more,
      c.loop-items-test.true,
    )

pub loop-items-preserved : goal.loop-items-preserved
loop-items-preserved g c =
    let stands = c.in-Some.ensures in
    record {
      met = rw c.split_at.ensures.back (meets_more (g.F.Walker.format (g.F.Walker.setting c.args.walker.now)) (does_of g.F.Walker.value g.S.Sink.wants g.S.Sink.gives) c.requires.lawful (g.F.Walker.state c.args.walker.now) c.args.shown.now c.loop-items.rest.now c.in-Some.field-0.size _ _ _ _ _ _ _ _ _
          c.loop-items.invariant.met stands.within stands.text stands.stays (c.args.walker.now, c.in-Some.field-0.head, refl, sym c.wants.ensures ∙ c.if-not-wants.false, rw c.split_at.ensures.front at c.in_default-item.ensures));
      more = omega (arith, c.loop-items.invariant.more);
      within = omega (arith, c.loop-items-test.true);
    }

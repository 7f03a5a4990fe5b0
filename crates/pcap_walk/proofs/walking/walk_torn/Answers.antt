use Rattle.std.proofs.Common.{◌∙◌, refl, sym, arith, inl}
use Rattle.std.proofs.KnownBytes.{Keeps-refl}
use Rattle.pcap_walk.specs.declared.walking.Ended.TheVariants.{AtEnd, Refused, Stopped}
use Rattle.pcap_walk.specs.Walks.{does_of}
use Rattle.pcap_walk.proofs.Walks.{walks_one, ends_here}
use Rattle.pcap_walk.proofs.walking.walk_torn.Goals as goal

pub returns-in-Ok-None-clause-turn : goal.returns-in-Ok-None-clause-turn
returns-in-Ok-None-clause-turn g c =
    let holds = rw c.in-Ok-None.field-0-is at c.in-Ok-None.ensures.holds in
    ends_here (g.F.Walker.format (g.F.Walker.setting c.args.walker.now)) (does_of g.F.Walker.value g.S.Sink.wants g.S.Sink.gives) g.S.Sink.is_unready g.S.Sink.wants (g.F.Walker.state c.args.walker.now) _ _ _ c.args.most c.args.walked.now.items _ _ _ _ _ AtEnd
    (Keeps-refl _) (c.requires.fewer, holds.0, holds.1, holds.2, refl, Keeps-refl _)

pub returns-in-Err-clause-turn : goal.returns-in-Err-clause-turn
returns-in-Err-clause-turn g c =
    let holds = c.in-Err.ensures.holds in
    ends_here (g.F.Walker.format (g.F.Walker.setting c.args.walker.now)) (does_of g.F.Walker.value g.S.Sink.wants g.S.Sink.gives) g.S.Sink.is_unready g.S.Sink.wants (g.F.Walker.state c.args.walker.now) _ _ _ c.args.most c.args.walked.now.items _ _ _ _ _ (Refused c.in-Err.error)
    (Keeps-refl _) (c.requires.fewer, holds.0, holds.1, refl, Keeps-refl _)

pub returns-in-Ok-clause-turn : goal.returns-in-Ok-clause-turn
returns-in-Ok-clause-turn g c =
    let holds = rw c.in-Ok-Some.field-0-is at c.in-Ok-Some.ensures.holds in
    let n = c.args.walked.now.items in (
      walks_one (g.F.Walker.format (g.F.Walker.setting c.args.walker.now)) (does_of g.F.Walker.value g.S.Sink.wants g.S.Sink.gives) _ _ _ (g.F.Walker.held c.hold_next.new.self) _ _ n _ _ _ _ holds.1 (holds.2 ∙ sym c.clear.ensures.state) holds.3
          (c.hold_next.new.self, c.in-Ok-Some.head, refl, c.requires.wants, c.in-Ok.ensures),
      holds.0,
      omega arith,
      omega (arith, c.requires.fewer),
    )

pub returns-in-Err-given-clause-turn : goal.returns-in-Err-given-clause-turn
returns-in-Err-given-clause-turn g c =
    let holds = rw c.in-Ok-Some.field-0-is at c.in-Ok-Some.ensures.holds in
    let item = g.F.Walker.value c.hold_next.new.self c.in-Ok-Some.head (g.F.Walker.held c.hold_next.new.self) in
    ends_here (g.F.Walker.format (g.F.Walker.setting c.args.walker.now)) (does_of g.F.Walker.value g.S.Sink.wants g.S.Sink.gives) g.S.Sink.is_unready g.S.Sink.wants (g.F.Walker.state c.args.walker.now) _ _ _ c.args.most c.args.walked.now.items _ _ _ _ _ (Stopped c.in-Err-given.stop)
    (Keeps-refl _) (
      c.requires.fewer,
      holds.0,
      inl (record { item = item; text = g.F.Walker.held c.hold_next.new.self; is_text = holds.1; took = holds.3; stops = (c.hold_next.new.self, c.in-Ok-Some.head, refl, c.requires.wants, c.in-Err-given.ensures) }),
    )

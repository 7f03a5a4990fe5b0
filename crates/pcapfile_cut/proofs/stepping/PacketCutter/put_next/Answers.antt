use Rattle.std.proofs.Common.{◌≡◌, inl, refl}
use Rattle.std.proofs.lemmas.Result.{err_from_is_err_and}
use Rattle.pcapfile_cut.specs.Steps.{GoesOn}
use Rattle.pcapfile_cut.proofs.Steps.{ends_at_no_packet}
use Rattle.pcapfile_cut.proofs.stepping.PacketCutter.put_next.Goals as goal

pub returns-in_err-is_more-clause-steps : goal.returns-in_err-is_more-clause-steps
returns-in_err-is_more-clause-steps g c =
    let p = err_from_is_err_and c.from_residual.result c.from_residual.ensures.1 in
    let more = c.wants_more.ensures.0 c.if-not-wants_more.false in
    rw (p.1, p.2) (inl (record {
      goes_on = record { not_ended = c.if-self.false; countable = more.0; wants = more.1 };
      wanted = _;
      is_of = refl;
      steps = c.in_err-is_more.ensures.steps;
      ended = refl;
    }))

pub returns-clause-steps : goal.returns-clause-steps
returns-clause-steps g c =
    let more = c.wants_more.ensures.0 c.if-not-wants_more.false in
    let goes_on : GoesOn c.args.self.now = record { not_ended = c.if-self.false; countable = more.0; wants = more.1 } in
    ends_at_no_packet _ _ _ _ _ _ goes_on refl c.in_ok-is_more.ensures.steps c.if-is_more.false refl

-- Steps of a cut of selected packets.
use Rattle.std.proofs.Common.{◌≡◌, inl, refl, true, false, Bool, Ok, subst}
use Rattle.pcapfile_cut.specs.declared.stepping.PacketCutter.{PacketCutter}
use Rattle.pcapfile_cut.specs.declared.wanted.Wanted.{Wanted}
use Rattle.pcapfile_cut.specs.Cuts.{Progress, StepsCut}
use Rattle.pcapfile_cut.specs.Steps.{GoesOn, IsOf, StepsOnce}

-- A step that read no packet ends the cut.
pub ends_at_no_packet : (old new : PacketCutter) (before after : Progress) (wanted : Wanted) (is_more : Bool) → GoesOn old → IsOf old.selection wanted
    → StepsCut old.header wanted before after (Ok is_more) → is_more ≡ false → new.has_ended ≡ true → StepsOnce old new before after (Ok false)
ends_at_no_packet old new before after wanted is_more goes_on is_of steps is ended = inl (record {
  goes_on = goes_on;
  wanted = wanted;
  is_of = is_of;
  steps = subst (λ (b : Bool). StepsCut old.header wanted before after (Ok b)) is steps;
  ended = ended;
})

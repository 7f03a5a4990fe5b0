use Rattle.std.proofs.Common.{◌≡◌, [], ◌∷◌, ◌++◌, Err, arith, inl, inr, refl, rules, length-append}
use Rattle.pcapfile_selected.proofs.MadeItems.{makes_more}
use Rattle.pcapfile_selected.proofs.selected.Selected.make_items.Goals as goal
use Rattle.pcapfile_selected.proofs.selected.Selected.make_items.Goals.{then-self-via-then-self, then-self-via-else-self+then-has_enough}

pub loop-items-init : goal.loop-items-init
loop-items-init g c = record { steps = []; makes = refl; count = refl }

pub loop-items-preserved : goal.loop-items-preserved
loop-items-preserved g c =
    let i = c.loop-items.invariant in
    let new = c.make_item.new.self in
    record {
      steps = i.steps ++ new ∷ [];
      makes = makes_more _ _ _ new i.steps i.makes (search rules);
      count = omega (arith, length-append i.steps (new ∷ []), i.count);
    }

pub returns-then-self : goal.returns-then-self
returns-then-self g c =
    let i = c.loop-items.invariant in
    record {
      steps = i.steps;
      mid = c.loop-items.self;
      makes = i.makes;
      ends = (
        refl,
        elim c.then-self.branch [
          | then-self-via-then-self w ↦ inl (search rules)
          | then-self-via-else-self+then-has_enough w ↦ inr (inl (search rules))
        ],
      );
    }

pub returns-in_err-make_item : goal.returns-in_err-make_item
returns-in_err-make_item g c =
    let i = c.loop-items.invariant in
    let failed : c.from_residual.result ≡ Err c.in_err-make_item.field-0.0 = search rules in
    rw failed (record { steps = i.steps; mid = c.loop-items.self; makes = i.makes; ends = c.in_err-make_item.ensures })

pub returns : goal.returns
returns g c =
    let i = c.loop-items.invariant in
    record { steps = i.steps; mid = _; makes = i.makes; ends = (refl, inr (inr (omega (arith, c.loop-items-test.false, i.count)))) }

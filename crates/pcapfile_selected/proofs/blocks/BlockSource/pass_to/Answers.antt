use Rattle.std.proofs.Common.{◌∙◌, [], ◌∷◌, ◌++◌, arith, inl, inr, refl, rules, length-append, subst}
use Rattle.pcapfile_cut.proofs.BlockCuts.{between_more, between_none}
use Rattle.pcapfile_selected.proofs.PutBlocks.{below_more, counts_more, counts_none, notes_more}
use Rattle.pcapfile_selected.specs.declared.selecting.Tests.{Tests}
use Rattle.pcapfile_selected.specs.SelectedBlocks.{NotesFirst}
use Rattle.pcapfile_selected.proofs.blocks.BlockSource.pass_to.Goals as goal

pub loop-blocks-init : goal.loop-blocks-init
loop-blocks-init g c = record {
  passed = [];
  between = between_none _;
  counts = counts_none _ c.requires.within c.requires.within_bytes;
  below = inl refl;
  first_time = refl;
  same = record { recent = refl; changing = refl; asked = refl; exceptions = refl };
  count = refl;
}

pub loop-blocks-preserved : goal.loop-blocks-preserved
loop-blocks-preserved g c =
    let i = c.loop-blocks.invariant in
    let one = rw c.if-not-branch.false at c.in_ok-pass_next.ensures.passes in
    let same = c.in_ok-pass_next.ensures.chooses in
    record {
      passed = i.passed ++ one.0 ∷ [];
      between = between_more _ _ _ i.passed (one.0 ∷ []) i.between one.1;
      counts = counts_more _ _ _ i.passed one.0 i.counts one.2;
      below = below_more _ _ _ i.passed one.0 i.below one.2 one.4;
      first_time = notes_more c.args.choosing.now.asked i.passed one.0 c.args.choosing.now.first c.loop-blocks.choosing.first c.pass_next.new.choosing.first i.first_time
          (subst (λ (t : Tests). NotesFirst t one.0 c.loop-blocks.choosing.first c.pass_next.new.choosing.first) i.same.asked one.3);
      same = record {
        recent = same.recent ∙ i.same.recent;
        changing = same.changing ∙ i.same.changing;
        asked = same.asked ∙ i.same.asked;
        exceptions = same.exceptions ∙ i.same.exceptions;
      };
      count = omega (arith, length-append i.passed (one.0 ∷ []), i.count);
    }

pub returns-in_err-pass_next-clause-passes : goal.returns-in_err-pass_next-clause-passes
returns-in_err-pass_next-clause-passes g c =
    let i = c.loop-blocks.invariant in record { blocks = i.passed; b = _; between = i.between; counts = i.counts; first = i.first_time; below = i.below; ends = search rules }

pub returns-then-not-branch-clause-passes : goal.returns-then-not-branch-clause-passes
returns-then-not-branch-clause-passes g c =
    let i = c.loop-blocks.invariant in record { blocks = i.passed; b = _; between = i.between; counts = i.counts; first = i.first_time; below = i.below; ends = search rules }

pub returns-then-first-le1-clause-passes : goal.returns-then-first-le1-clause-passes
returns-then-first-le1-clause-passes g c = record {
  blocks = [];
  b = _;
  between = between_none _;
  counts = counts_none _ c.requires.within c.requires.within_bytes;
  first = refl;
  below = inl refl;
  ends = inl (refl, inl c.if-first-le1.true);
}

pub returns-clause-passes : goal.returns-clause-passes
returns-clause-passes g c =
    let i = c.loop-blocks.invariant in
    record { blocks = i.passed; b = _; between = i.between; counts = i.counts; first = i.first_time; below = i.below; ends = inl (refl, inr (omega (arith, c.loop-blocks-test.false, i.count))) }

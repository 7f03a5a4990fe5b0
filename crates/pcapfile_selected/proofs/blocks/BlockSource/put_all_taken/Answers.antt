use Rattle.std.proofs.Common.{[], ◌∷◌, ◌++◌, arith, inr, refl, rules, length-append}
use Rattle.pcapfile_cut.proofs.BlockCuts.{between_more, between_none}
use Rattle.pcapfile_selected.proofs.Spanning.{ends_failed, puts_all_more}
use Rattle.pcapfile_selected.proofs.blocks.BlockSource.put_all_taken.Goals as goal

pub loop-blocks-init : goal.loop-blocks-init
loop-blocks-init g c = record { put = []; between = between_none _; puts = refl; count = refl }

pub loop-blocks-preserved : goal.loop-blocks-preserved
loop-blocks-preserved g c =
    let i = c.loop-blocks.invariant in
    let one = rw c.if-not-branch.false at c.in_ok-put_taken.ensures in
    record {
      put = i.put ++ one.0 ∷ [];
      between = between_more _ _ _ i.put (one.0 ∷ []) i.between one.1;
      puts = puts_all_more _ _ _ i.put one.0 i.puts one.2;
      count = omega (arith, length-append i.put (one.0 ∷ []), i.count);
    }

pub returns-in_err-put_taken : goal.returns-in_err-put_taken
returns-in_err-put_taken g c =
    let i = c.loop-blocks.invariant in
    record { blocks = i.put; mid = _; b = _; between = i.between; puts = i.puts; ends = ends_failed _ _ _ _ _ _ _ (search rules) c.in_err-put_taken.ensures }

pub returns-then-not-branch : goal.returns-then-not-branch
returns-then-not-branch g c =
    let i = c.loop-blocks.invariant in record { blocks = i.put; mid = _; b = _; between = i.between; puts = i.puts; ends = search rules }

pub returns : goal.returns
returns g c =
    let i = c.loop-blocks.invariant in record { blocks = i.put; mid = _; b = _; between = i.between; puts = i.puts; ends = inr (refl, refl, omega (arith, c.loop-blocks-test.false, i.count)) }

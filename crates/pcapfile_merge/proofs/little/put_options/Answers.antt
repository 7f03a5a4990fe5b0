use Rattle.std.proofs.Common.{◌++◌, ◌∙◌, ap, arith, length, List, ℕ, sym}
use Rattle.std.proofs.lemmas.List.{length-take}
use Rattle.pcapfile_merge.specs.Little.{turned_option}
use Rattle.pcapfile_merge.proofs.LittleOptions.{option_least, turns_all, turns_more}
use Rattle.pcapfile_merge.proofs.little.put_options.Goals as goal

pub put_option-requires : goal.put_option-requires
put_option-requires c =
    let so_far = c.loop-size.invariant in
    let least = option_least c.loop-size.left.now in
    let some = c.loop-size-test.true in
    omega (arith, so_far.size, so_far.within, least, ap length c.front.ensures, length-take c.loop-size.size c.loop-size.left.now)

pub loop-size-preserved : goal.loop-size-preserved
loop-size-preserved c =
    let so_far = c.loop-size.invariant in
    let next = c.option_size-size-in-loop-size.ensures in
    let put = c.in_ok-put_option.ensures ∙ ap (λ (l : List ℕ). c.loop-size.made.items ++ turned_option l) c.front.ensures in
    record {
      turns = turns_more _ _ _ _ _ _ _ (record { some = c.loop-size-test.true; within = so_far.within; is = so_far.size; behind = c.behind-left.ensures }) put so_far.turns;
      size = next.size;
      within = next.within;
    }

pub returns : goal.returns
returns c = turns_all _ _ _ _ _ _ (sym c.loop-size.invariant.size ∙ c.loop-size-test.false) c.loop-size.invariant.turns c.put_numbers.ensures

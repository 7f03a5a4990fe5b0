use Rattle.std.proofs.Common.{◌<◌, length, arith}
use Rattle.std.proofs.lemmas.Result.{err_from_is_err_and}
use Rattle.pcapfile_merge.proofs.Reversing.{reversed_more, some_numbers}
use Rattle.pcapfile_merge.proofs.reordered.reverse_numbers.Goals as goal

pub returns-in_err-reverse_in : goal.returns-in_err-reverse_in
returns-in_err-reverse_in c =
    let p = err_from_is_err_and c.from_residual.result c.from_residual.ensures.1 in
    let within : c.loop-option.option-index < length c.loop-option.options = omega (arith, c.loop-option-test.true, c.loop-option.auto.option-index-end) in
    rw (p.1, p.2) (c.in_err-reverse_in.ensures.0, some_numbers c.args.options.now c.loop-option.options c.loop-option.option-index c.loop-option.invariant within c.option-item.result c.in_err-reverse_in.ensures.1)

pub loop-option-preserved : goal.loop-option-preserved
loop-option-preserved c =
    let within : c.loop-option.option-index < length c.loop-option.options = omega (arith, c.loop-option-test.true, c.loop-option.auto.option-index-end) in
    reversed_more c.args.options.now c.loop-option.options c.loop-option.option-index c.loop-option.invariant within c.option-item.result c.reverse_in.new.option c.in_ok-reverse_in.ensures

use Rattle.std.proofs.Common.{map, ap, ◌∙◌}
use Rattle.std.proofs.lemmas.Result.{err_from_is_err_and}
use Rattle.std.specs.String.{string_bytes}
use Rattle.pcap_options.specs.Held.{string_in, under}
use Rattle.pcapfile_info.proofs.Describing.{given_more, some_among}
use Rattle.pcapfile_info.proofs.described.push_comments_among.Goals as goal

pub loop-option-preserved : goal.loop-option-preserved
loop-option-preserved g c =
    given_more g.O.Commenting.entry (under 1 string_in) c.args.options.now c.loop-option.option-index _ (map string_bytes c.args.comments.now.items) _ _ c.loop-option-test.true c.option-item.is c.loop-option.invariant c.in_ok-push_comment.ensures

pub returns-in_err-push_comment : goal.returns-in_err-push_comment
returns-in_err-push_comment g c =
    let p = err_from_is_err_and c.from_residual.result c.from_residual.ensures.1 in
    rw p.1 (
      (_, ap (map string_bytes) c.in_err-push_comment.ensures.0 ∙ c.loop-option.invariant),
      some_among g.O.Commenting.entry c.args.options.now c.loop-option.option-index _ c.loop-option-test.true c.option-item.is c.in_err-push_comment.ensures.1,
    )

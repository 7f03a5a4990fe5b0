use Rattle.std.proofs.Common.{rules, ◌<◌, length, ◌∙◌}
use Rattle.std.proofs.lemmas.List.{length-set}
use Rattle.pcapfile_c.proofs.Many.{others_kept}
use Rattle.pcapfile_c.proofs.Standing.{flaws_more}
use Rattle.pcapfile_c.proofs.blocks_as_is.show_flaws.Goals as goal

pub loop-i-preserved : goal.loop-i-preserved
loop-i-preserved c =
    let here : c.loop-i.i < length c.args.flaws.now = search rules in
    let there : c.loop-i.i < length c.loop-i.places = search rules in
    let inv = c.loop-i.invariant in
    record {
      filled = flaws_more c.args.flaws.now c.loop-i.places c.loop-i.i _ c.new.result here there c.new.ensures inv.filled;
      others = others_kept c.loop-i.places c.args.places.now c.loop-i.i c.new.result inv.others;
      long = length-set c.loop-i.places c.loop-i.i c.new.result ∙ inv.long;
    }

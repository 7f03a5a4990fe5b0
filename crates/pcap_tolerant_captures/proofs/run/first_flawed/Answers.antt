use Rattle.std.proofs.Common.{◌≡◌, false, sym, ap, ◌∙◌}
use Rattle.pcap_tolerant_captures.specs.Run.{is_flawed}
use Rattle.pcap_tolerant_captures.proofs.FirstFlaw.{one_more, position_behind, size_behind}
use Rattle.pcap_tolerant_captures.proofs.run.first_flawed.Goals as goal

pub returns-in-None : goal.returns-in-None
returns-in-None c =
    let sound : is_flawed c.args.first.now ≡ false = sym c.is_flawed.ensures ∙ c.if-is_flawed.false in
    position_behind is_flawed c.args.first.now c.args.blocks.now sound ∙ ap one_more (sym c.in-None.ensures.place)

pub returns-in-Some : goal.returns-in-Some
returns-in-Some c =
    let sound : is_flawed c.args.first.now ≡ false = sym c.is_flawed.ensures ∙ c.if-is_flawed.false in
    (position_behind is_flawed c.args.first.now c.args.blocks.now sound ∙ ap one_more (sym c.in-Some.ensures.place), size_behind c.args.first.now c.args.blocks.now c.in-Some.index c.length_of.result c.length_of.ensures)

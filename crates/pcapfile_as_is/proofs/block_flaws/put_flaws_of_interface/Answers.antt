use Rattle.std.proofs.Common.{◌≡◌, List, ℕ, true, Ok, None, sym, subst}
use Rattle.std.proofs.lemmas.Result.{err_from_is_err_and}
use Rattle.pcap_core.specs.declared.rules.Rule.TheVariants.{InterfaceTooShort}
use Rattle.pcap_core.specs.Answer.{number_in}
use Rattle.pcap_tolerant_blocks.specs.declared.flaws.Broken.TheVariants as broken
use Rattle.pcap_tolerant_blocks.specs.declared.flaws.Flaw.{Flaw}
use Rattle.pcap_tolerant_blocks.specs.Flaws.{Said}
use Rattle.pcap_options.specs.InterfaceOption.{interface_description}
use Rattle.pcap_tolerant_blocks.specs.NextFlaw.{HasFlaws}
use Rattle.pcap_tolerant_blocks.proofs.BodyFlaws.{interface_flaws, short_interface}
use Rattle.pcapfile_as_is.specs.BlockLines.{WritesFlaws}
use Rattle.pcapfile_as_is.proofs.SaidLines.{all_behind, alone_put, alone_torn}
use Rattle.pcapfile_as_is.proofs.block_flaws.put_flaws_of_interface.Goals as goal

too_short : Flaw
too_short = record { code = None; broken = broken.Rule InterfaceTooShort }

pub returns-in_err-put_flaw : goal.returns-in_err-put_flaw
unfolding too_short
returns-in_err-put_flaw g c = λ interface flaws rest text.
    let p = err_from_is_err_and c.from_residual.result c.from_residual.ensures.1 in
    let place = c.args.place.now in
    let before = g.W.Write.contents c.args.output.now in
    let now = g.W.Write.contents c.put_flaw.new.output in
    let same = short_interface (number_in c.args.order) interface flaws c.args.body.now rest c.if-body-lt8.true text in
    let torn = alone_torn place too_short before now c.in_err-put_flaw.field-0.0 c.in_err-put_flaw.ensures.writes in
    subst (λ (l : List Said). WritesFlaws place l before now c.from_residual.result) (sym same) (rw (p.1, p.2) torn)

pub returns-then-body-lt8 : goal.returns-then-body-lt8
unfolding too_short
returns-then-body-lt8 g c = λ interface flaws rest text.
    let place = c.args.place.now in
    let before = g.W.Write.contents c.args.output.now in
    let now = g.W.Write.contents c.put_flaw.new.output in
    let same = short_interface (number_in c.args.order) interface flaws c.args.body.now rest c.if-body-lt8.true text in
    subst (λ (l : List Said). WritesFlaws place l before now (Ok true)) (sym same) (alone_put place too_short before now c.in_ok-put_flaw.ensures.writes)

pub returns : goal.returns
returns g c = λ interface flaws rest text.
    let has = interface_flaws (number_in c.args.order) interface flaws c.args.body.now rest c.if-body-lt8.false text in
    c.put_flaws.ensures flaws (subst (HasFlaws (number_in c.args.order) interface_description flaws) (sym (all_behind 8 c.args.body.now)) has)

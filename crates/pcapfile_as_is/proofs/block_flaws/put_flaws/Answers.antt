use Rattle.std.proofs.lemmas.Result.{err_from_is_err_and}
use Rattle.pcap_core.specs.Answer.{number_in}
use Rattle.pcap_tolerant_blocks.specs.SoundOptions.{kind_of}
use Rattle.pcapfile_as_is.proofs.SaidLines.{all_put, none_put, one_put, torn_put}
use Rattle.pcapfile_as_is.proofs.block_flaws.put_flaws.Goals as goal

pub loop-next-init : goal.loop-next-init
loop-next-init g c = λ flaws has.
    none_put (number_in c.args.order) (kind_of c.args.of) c.args.place.now flaws c.args.options.now (g.W.Write.contents c.args.output.now) has

pub returns-in_err-put_flaw : goal.returns-in_err-put_flaw
returns-in_err-put_flaw g c = λ flaws has.
    let p = err_from_is_err_and c.from_residual.result c.from_residual.ensures.1 in
    let contents = g.W.Write.contents in
    let next = c.in-Some.next in
    rw (p.1, p.2) (torn_put (number_in c.args.order) (kind_of c.args.of) c.args.place.now flaws c.loop-next.left.now next.1.now c.loop-next.has_flaw (contents c.args.output.now) (contents c.loop-next.output) (contents c.put_flaw.new.output) next.0
    c.in_err-put_flaw.field-0.0 (c.loop-next.invariant flaws has) c.in-Some.ensures.flaws c.in_err-put_flaw.ensures.writes c.in_err-put_flaw.ensures.no_memory)

pub loop-next-preserved : goal.loop-next-preserved
loop-next-preserved g c = λ flaws has.
    let contents = g.W.Write.contents in
    let next = c.in-Some.next in
    one_put (number_in c.args.order) (kind_of c.args.of) c.args.place.now flaws c.loop-next.left.now next.1.now c.loop-next.has_flaw (contents c.args.output.now) (contents c.loop-next.output) (contents c.put_flaw.new.output) next.0
    (c.loop-next.invariant flaws has) c.in-Some.ensures.flaws c.in_ok-put_flaw.ensures.writes

pub returns : goal.returns
returns g c = λ flaws has.
    let contents = g.W.Write.contents in
    all_put (number_in c.args.order) (kind_of c.args.of) c.args.place.now flaws c.loop-next.left.now c.loop-next.has_flaw (contents c.args.output.now) (contents c.loop-next.output) (c.loop-next.invariant flaws has) c.in_default.ensures.flaws

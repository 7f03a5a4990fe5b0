use Rattle.std.proofs.Common.{◌-◌, ◌<◌, length, take, drop, subst, arith, take-take, take_all, length-drop}
use Rattle.std.proofs.lemmas.List.{length-take}
use Rattle.std.proofs.lemmas.List.Elements.{All-from_get_or}
use Rattle.std.specs.Io.KnownBytes.{Appends}
use Rattle.pcap_classic.specs.Stretches.{TakesWhole}
use Rattle.pcap_classic.proofs.Stretched.{rest_within, all_sent, torn_sent}
use Rattle.pcap_classic.proofs.run.stretch.put_stretch.Goals as goal

pub slice_bounds-stretch-count : goal.slice_bounds-stretch-count
slice_bounds-stretch-count g c = rest_within c.args.header.now _ _ c.whole_packets-packets.ensures.packets c.whole_packets-packets.ensures.texts

pub overflow_sub-gone : goal.overflow_sub-gone
overflow_sub-gone g c =
    let begun = c.whole_packets-packets-in-Err.ensures in
    omega (arith, rest_within c.args.header.now (take c.in-Err.field-0.gone c.args.shown.now) _ begun.packets begun.texts, length-take c.in-Err.field-0.gone c.args.shown.now)

pub returns-in-Ok : goal.returns-in-Ok
returns-in-Ok g c =
    let shown = c.args.shown.now in
    let all = c.whole_packets-packets.ensures in
    let rest = c.whole_packets-packets.result.1.now in
    let within = rest_within c.args.header.now shown rest all.packets all.texts in
    let fits = All-from_get_or (λ byte. byte < 256) shown 0 (λ i lt. omega (arith, c.type_inv.shown i)) in
    (all_sent c.args.header.now shown rest _ _ c.args.most _ (length shown - length rest) fits all (omega (arith, within)) c.in-Ok.ensures.out, all.within, c.in-Ok.ensures.told)

pub returns-in-Err : goal.returns-in-Err
returns-in-Err g c =
    let shown = c.args.shown.now in
    let all = c.whole_packets-packets.ensures in
    let rest = c.whole_packets-packets.result.1.now in
    let begun = c.whole_packets-packets-in-Err.result.1.now in
    let behind = c.whole_packets.result.1.now in
    let gone = c.in-Err.field-0.gone in
    let used = length shown - length rest in
    let within = rest_within c.args.header.now shown rest all.packets all.texts in
    let fits = All-from_get_or (λ byte. byte < 256) shown 0 (λ i lt. omega (arith, c.type_inv.shown i)) in
    let tore = c.in-Err.ensures.out in
    let less : gone < used = omega (arith, within, tore.1, length-take used shown) in
    let out = subst (λ l. Appends (g.W.Write.contents c.args.writer.now) (g.W.Write.contents c.put_or_tear.new.writer) l) (take-take gone used shown (omega (arith, less))) tore.2 in
    let at = gone - length begun in
    let one = subst (λ l. TakesWhole c.args.header.now l behind 1 c.whole_packets.result.0) (take_all (length shown - at) (drop at shown) (omega (arith, length-drop at shown))) c.whole_packets.ensures in
    let torn = torn_sent c.args.header.now shown rest begun behind _ _ c.args.most _ _ _ used gone fits all (omega (arith, within)) less out c.whole_packets-packets-in-Err.ensures one in
    (torn.0, torn.1, tore.0, c.in-Err.ensures.told)

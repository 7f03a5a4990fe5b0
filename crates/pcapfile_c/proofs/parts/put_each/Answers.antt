use Rattle.std.proofs.Common.{◌+◌, List, ℕ, arith, length, refl, subst, sym, ap, take, length-append, get_or}
use Rattle.std.proofs.lemmas.List.Folds.{length-flat_map-take}
use Rattle.pcapfile_values.specs.BlockTexts.{PutsAt}
use Rattle.pcapfile_c.specs.PutParts.{each_bytes, option_bytes}
use Rattle.pcapfile_values.proofs.Puts.{puts_both}
use Rattle.pcapfile_c.proofs.PutParts.{more_bytes, no_option, option_long, puts_none}
use Rattle.pcapfile_c.proofs.parts.put_each.Goals as goal

pub loop-option-init : goal.loop-option-init
loop-option-init g c = record { behind = omega arith; put = puts_none c.args.at c.args.room.now (omega (arith, c.requires.room)) }

pub put_option-behind-requires-clause-short : goal.put_option-behind-requires-clause-short
put_option-behind-requires-clause-short g c = (c.requires.listed c.loop-option.option-index no_option c.loop-option-test.true).short

pub put_option-behind-requires-clause-room : goal.put_option-behind-requires-clause-room
put_option-behind-requires-clause-room g c =
    let write = g.B.ByteOrder.bytes_of in
    let os = c.args.options.now in
    let o = get_or os c.loop-option.option-index no_option in
    let room = length-flat_map-take (option_bytes write) os c.loop-option.option-index no_option c.loop-option-test.true in
    omega (arith, c.loop-option.invariant.behind, c.loop-option.auto.room, room, option_long write g.met.B.ByteOrder.length_bytes o, c.requires.room)

pub loop-option-preserved : goal.loop-option-preserved
loop-option-preserved g c =
    let write = g.B.ByteOrder.bytes_of in
    let inv = c.loop-option.invariant in
    let os = c.args.options.now in
    let i = c.loop-option.option-index in
    let o = get_or os i no_option in
    let before = each_bytes write (take i os) in
    let more = more_bytes (option_bytes write) os i no_option c.loop-option-test.true in
    let put = puts_both (length before) refl inv.behind inv.put c.put_option-behind.ensures.put in
    record {
      behind = omega (arith, c.put_option-behind.ensures.behind, inv.behind, ap length more, length-append before (option_bytes write o), option_long write g.met.B.ByteOrder.length_bytes o);
      put = subst (λ (text : List ℕ). PutsAt c.args.at text c.args.room.now c.put_option-behind.new.room) (sym more) put;
    }

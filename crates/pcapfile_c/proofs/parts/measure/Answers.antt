use Rattle.std.proofs.Common.{◌≡◌, ap, arith, get_or, length, length-append, refl, take}
use Rattle.std.proofs.lemmas.List.Elements.{All-more}
use Rattle.std.proofs.lemmas.List.Folds.{length-flat_map-take}
use Rattle.pcapfile_c.specs.PutParts.{IsListed, each_bytes, option_bytes}
use Rattle.pcapfile_c.proofs.PutParts.{listed_long, more_bytes, no_option, option_long}
use Rattle.pcapfile_c.proofs.parts.measure.Goals as goal

pub returns-then-len-gt4294967283 : goal.returns-then-len-gt4294967283
returns-then-len-gt4294967283 g c =
    let write = g.B.ByteOrder.bytes_of in
    let wide = g.met.B.ByteOrder.length_bytes in
    let os = c.args.options.now in
    let i = c.loop-option.option-index in
    let o = get_or os i no_option in
    let some : length os ≡ 0 → ⊥ = λ none. omega (arith, none, c.loop-option-test.true) in
    let room = length-flat_map-take (option_bytes write) os i no_option c.loop-option-test.true in
    omega (arith, c.if-len-gt4294967283.true, c.div_ceil.ensures, c.loop-option.invariant.len, room, option_long write wide o, listed_long write wide c.args.clocked os some)

pub loop-option-preserved : goal.loop-option-preserved
loop-option-preserved g c =
    let write = g.B.ByteOrder.bytes_of in
    let os = c.args.options.now in
    let i = c.loop-option.option-index in
    let o = get_or os i no_option in
    let inv = c.loop-option.invariant in
    let more = more_bytes (option_bytes write) os i no_option c.loop-option-test.true in
    record {
      len = omega (arith, c.div_ceil.ensures, inv.len, ap length more, length-append (each_bytes write (take i os)) (option_bytes write o), option_long write g.met.B.ByteOrder.length_bytes o);
      short = c.if-len-gt4294967283.false;
      listed = All-more (IsListed c.args.clocked) os i no_option c.loop-option-test.true inv.listed (c.is_unlisted.ensures.listed c.if-is_unlisted.false);
    }

use Rattle.std.proofs.Common.{◌∙◌, [], ap, arith, length, length-append, map, refl, subst, take, ◌∷◌}
use Rattle.std.specs.Prelude.{IsUtf8, List, ℕ}
use Rattle.std.specs.Cow.{cow_str_bytes}
use Rattle.std.specs.List.{flat_map}
use Rattle.pcap_options.specs.Names.{HasNoZero}
use Rattle.pcap_options.proofs.Strings.{string_is}
use Rattle.pcap_written.specs.Bodies.{name_text}
use Rattle.pcap_written.specs.Fits.{IsFitName}
use Rattle.pcap_written.proofs.Lists.{any_at, fits_more, puts_more, takes_one_more}
use Rattle.pcap_written.proofs.names.names_len.Goals as goal

pub returns-then-has_zero : goal.returns-then-has_zero
returns-then-has_zero c =
    let same = c.as_bytes-name.ensures.value ∙ c.deref.ensures.value in
    any_at cow_str_bytes (λ name. HasNoZero name → ⊥) c.args.names.now c.loop-name.name-index c.name-item.result c.loop-name-test.true c.name-item.is (subst (λ (name : List ℕ). HasNoZero name → ⊥) same (c.has_zero.ensures.found c.if-has_zero.true))

pub returns-then-name-len : goal.returns-then-name-len
returns-then-name-len c =
    let name = cow_str_bytes c.name-item.result in
    let same = ap length (c.as_bytes-name.ensures.value ∙ c.deref.ensures.value) in
    let most = takes_one_more cow_str_bytes name_text c.args.names.now c.loop-name.name-index c.name-item.result c.loop-name-test.true c.name-item.is in
    omega (arith, most, same, length-append name (0 ∷ []), c.loop-name.invariant.len, c.if-name-len.true)

pub loop-name-preserved : goal.loop-name-preserved
loop-name-preserved c =
    let name = cow_str_bytes c.name-item.result in
    let is = c.as_bytes-name.ensures.value ∙ c.deref.ensures.value in
    let before = flat_map name_text (map cow_str_bytes (take c.loop-name.name-index c.args.names.now)) in
    let more = puts_more cow_str_bytes name_text c.args.names.now c.loop-name.name-index c.name-item.result [] before _ c.loop-name-test.true c.name-item.is refl refl in
    let fit : IsFitName name = record { no_zero = subst HasNoZero is (c.has_zero.ensures.none c.if-has_zero.false); string = string_is name (subst IsUtf8 c.deref.ensures.value c.deref.utf8) } in
    record {
      len = omega (arith, ap length more, length-append before (name_text name), length-append name (0 ∷ []), ap length is, c.loop-name.invariant.len);
      fit = fits_more cow_str_bytes IsFitName c.args.names.now c.loop-name.name-index c.name-item.result c.loop-name-test.true c.name-item.is c.loop-name.invariant.fit fit;
    }

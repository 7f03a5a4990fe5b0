use Rattle.std.proofs.Common.{rules, ◌≡◌, ◌≤◌, ◌<◌, ◌-◌, ◌^◌, ◌⊎◌, length, Ok, Some, refl, inl, inr, arith}
use Rattle.pcap_blocks.specs.declared.block_type.BlockType.TheVariants as types
use Rattle.pcapfile_values.specs.Bodies.{BodyTells, ShowsInterface, IsInterface}
use Rattle.pcapfile_c.proofs.Passing.{found_bases, found_lacks, found_puts, found_stops, place_other}
use Rattle.pcapfile_c.proofs.push_packets.take_interface.Goals.{then-count-via-then-count, then-count-via-else-count+then-interfaces-count}
use Rattle.pcapfile_c.proofs.push_packets.take_interface.Goals as goal

pub returns-in-Err-clause-taken : goal.returns-in-Err-clause-taken
returns-in-Err-clause-taken c q shows text =
    let e = c.args.order in
    let names = c.requires.named in
    (refl, refl, refl, found_stops q c.args.section.now c.args.interfaces.now e c.args.body.now c.args.left.now.bytes.now c.args.rest.now c.in-Err.e c.args.error.now c.tell.new.told c.tell.result shows names text c.in-Err.ensures c.tell.ensures)

pub returns-then-count-clause-taken : goal.returns-then-count-clause-taken
returns-then-count-clause-taken c q shows text =
    let e = c.args.order in
    let names = c.requires.named in
    let section = c.args.section.now in
    let places = c.args.interfaces.now in
    let body = c.args.body.now in
    let told : BodyTells ShowsInterface IsInterface e types.InterfaceDescription body (Ok (Some c.in-Ok-Some.found)) = rw c.in-Ok-Some.field-0-is at c.in-Ok-Some.ensures in
    let full : (length places ≤ section.interfaces) ⊎ (section.interfaces ≡ 2 ^ 32 - 1) = elim c.then-count.branch [
      | then-count-via-then-count w ↦ inr (omega (arith, w.if-count.true))
      | then-count-via-else-count+then-interfaces-count w ↦ inl (omega (arith, w.if-interfaces-count.true))
    ] in
    (refl, refl, refl, inl (refl, refl, found_lacks q section places e body c.args.left.now.bytes.now c.args.rest.now c.in-Ok-Some.found shows names text told full))

pub returns-clause-taken : goal.returns-clause-taken
returns-clause-taken c q shows text =
    let e = c.args.order in
    let names = c.requires.named in
    let section = c.args.section.now in
    let places = c.args.interfaces.now in
    let body = c.args.body.now in
    let told : BodyTells ShowsInterface IsInterface e types.InterfaceDescription body (Ok (Some c.in-Ok-Some.found)) = rw c.in-Ok-Some.field-0-is at c.in-Ok-Some.ensures in
    let within_places : section.interfaces < length places = omega (arith, c.if-interfaces-count.false) in
    let few : section.interfaces < 2 ^ 32 - 1 = search rules in
    (refl, found_puts q section _ places e body c.args.left.now.bytes.now c.args.rest.now c.in-Ok-Some.found shows names text told within_places few refl refl refl refl)

pub returns-clause-bases : goal.returns-clause-bases
returns-clause-bases c had =
    let e = c.args.order in
    let section = c.args.section.now in
    let places = c.args.interfaces.now in
    let body = c.args.body.now in
    let told : BodyTells ShowsInterface IsInterface e types.InterfaceDescription body (Ok (Some c.in-Ok-Some.found)) = rw c.in-Ok-Some.field-0-is at c.in-Ok-Some.ensures in
    let within_places : section.interfaces < length places = omega (arith, c.if-interfaces-count.false) in
    found_bases section _ places e body c.in-Ok-Some.found told within_places refl had

pub returns-clause-others : goal.returns-clause-others
returns-clause-others c i le = place_other c.args.interfaces.now c.args.section.now.interfaces i c.in-Ok-Some.found (omega (arith, le))

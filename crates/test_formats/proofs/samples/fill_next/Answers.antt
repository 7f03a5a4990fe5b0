use Rattle.std.proofs.Common.{◌≡◌, refl, Some, Ok, Err}
use Rattle.test_formats.proofs.HeadedSamples.{samples_lawful}
use Rattle.test_formats.proofs.StatedSamples.{item_held, bad_held}
use Rattle.test_formats.proofs.samples.fill_next.Goals as goal

pub item-requires-clause-lawful : goal.item-requires-clause-lawful
item-requires-clause-lawful g c = samples_lawful

pub returns-in-Ok-Some-Ok : goal.returns-in-Ok-Some-Ok
returns-in-Ok-Some-Ok g c =
    let way = c.in-Ok-Some-Ok in
    let is : c.item.result ≡ Ok (Some (Ok way.head)) = rw (way.is, way.field-0-is, way.field-0-0-is) refl in
    item_held c.args.size _ _ _ _ way.head c.item.result is c.item.ensures.fills

pub returns-in-Ok-Some-Err : goal.returns-in-Ok-Some-Err
returns-in-Ok-Some-Err g c =
    let way = c.in-Ok-Some-Err in
    let is : c.item.result ≡ Ok (Some (Err way.fault)) = rw (way.is, way.field-0-is, way.field-0-0-is) refl in
    bad_held c.args.size _ _ _ _ way.fault c.item.result is c.item.ensures.fills

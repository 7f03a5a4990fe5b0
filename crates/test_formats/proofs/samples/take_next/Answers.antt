use Rattle.std.proofs.Common.{◌≡◌, refl, Some, Ok, Err}
use Rattle.test_formats.proofs.HeadedSamples.{samples_lawful}
use Rattle.test_formats.proofs.StatedSamples.{items_taken, bads_taken}
use Rattle.test_formats.proofs.samples.take_next.Goals as goal

pub take_item-requires-clause-lawful : goal.take_item-requires-clause-lawful
take_item-requires-clause-lawful g c = samples_lawful

pub returns-in-Ok-Some-Ok-default-clause-takes : goal.returns-in-Ok-Some-Ok-default-clause-takes
returns-in-Ok-Some-Ok-default-clause-takes g c =
    let way = c.in-Ok-Some-Ok-default in
    let is : c.take_item.result ≡ Ok (Some (Ok way.head, way.bytes)) = rw (way.is, way.field-0-is, way.field-0-0-0-is) refl in
    items_taken (λ body. body.items) c.args.size _ _ _ way.bytes way.head c.take_item.result is c.take_item.ensures.takes

pub returns-in-Ok-Some-Err-default-clause-takes : goal.returns-in-Ok-Some-Err-default-clause-takes
returns-in-Ok-Some-Err-default-clause-takes g c =
    let way = c.in-Ok-Some-Err-default in
    let is : c.take_item.result ≡ Ok (Some (Err way.fault, way._none)) = rw (way.is, way.field-0-is, way.field-0-0-0-is) refl in
    bads_taken (λ body. body.items) c.args.size _ _ _ way._none way.fault c.take_item.result is c.take_item.ensures.takes

use Rattle.std.proofs.lemmas.List.Elements.{All-from_get_or}
use Rattle.std.proofs.Common.{arith, refl, ◌<◌}
use Rattle.pcap_classic.proofs.Stretched.{held_written}
use Rattle.pcap_classic.proofs.run.copy.put_text.Goals as goal

pub returns : goal.returns
returns g c packet says =
    let header = c.args.header.now in
    let fits = All-from_get_or (λ byte. byte < 256) c.args.bytes.now 0 (λ i lt. omega (arith, c.type_inv.bytes i)) in
    rw (held_written header header c.args.bytes.now packet refl fits says) c.put.ensures.out

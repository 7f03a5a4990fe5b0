use Rattle.std.proofs.Common.{◌≡◌, sym, ◌∙◌}
use Rattle.pcap_classic.specs.Magic.{order_of}
use Rattle.pcap_core.specs.declared.common.Endianness.TheVariants.{Big, Little}
use Rattle.pcap_classic.proofs.pcap.writer.put_header.Goals as goal

pub returns-in-Big-clause-out : goal.returns-in-Big-clause-out
returns-in-Big-clause-out g c =
    let e : order_of c.args.header.now.magic_number ≡ Big = sym c.endianness.ensures ∙ c.in-Big.is in
    rw (e, ← c.to_bytes.ensures) c.put.ensures.out

pub returns-in-Little-clause-out : goal.returns-in-Little-clause-out
returns-in-Little-clause-out g c =
    let e : order_of c.args.header.now.magic_number ≡ Little = sym c.endianness.ensures ∙ c.in-Little.is in
    rw (e, ← c.to_bytes-in-Little.ensures) c.put-in-Little.ensures.out

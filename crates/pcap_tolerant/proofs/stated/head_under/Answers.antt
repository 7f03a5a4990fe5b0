use Rattle.std.proofs.Common.{sym, ◌≡◌, ◌∙◌}
use Rattle.pcap_classic.specs.Magic.{order_of}
use Rattle.pcap_core.specs.declared.common.Endianness.TheVariants.{Big, Little}
use Rattle.pcap_tolerant.proofs.stated.head_under.Goals as goal

pub returns-in-Big : goal.returns-in-Big
returns-in-Big c =
    let e : order_of c.args.header.now.magic_number ≡ Big = sym c.endianness.ensures ∙ c.in-Big.is in
    record { tells = rw (e, ← c.ts_resolution-ts_resolution.ensures) c.from_slice.ensures.tells }

pub returns-in-Little : goal.returns-in-Little
returns-in-Little c =
    let e : order_of c.args.header.now.magic_number ≡ Little = sym c.endianness.ensures ∙ c.in-Little.is in
    record { tells = rw (e, ← c.ts_resolution-ts_resolution.ensures) c.from_slice-in-Little.ensures.tells }

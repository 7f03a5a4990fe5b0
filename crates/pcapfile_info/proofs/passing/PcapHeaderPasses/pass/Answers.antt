use Rattle.std.proofs.Common.{sym, ◌≡◌, ◌∙◌}
use Rattle.pcap_classic.specs.Magic.{order_of}
use Rattle.pcap_core.specs.declared.common.Endianness.TheVariants.{Big, Little}
use Rattle.pcapfile_info.proofs.passing.PcapHeaderPasses.pass.Goals as goal

pub returns-in-Big-clause-walks : goal.returns-in-Big-clause-walks
returns-in-Big-clause-walks c =
    let e : order_of c.args.self.now.magic_number ≡ Big = sym c.endianness.ensures ∙ c.in-Big.is in
    λ q stands. rw (e, ← c.ts_resolution-ts_resolution.ensures) c.pass_whole.ensures.walks

pub returns-in-Little-clause-walks : goal.returns-in-Little-clause-walks
returns-in-Little-clause-walks c =
    let e : order_of c.args.self.now.magic_number ≡ Little = sym c.endianness.ensures ∙ c.in-Little.is in
    λ q stands. rw (e, ← c.ts_resolution-ts_resolution.ensures) c.pass_whole-in-Little.ensures.walks

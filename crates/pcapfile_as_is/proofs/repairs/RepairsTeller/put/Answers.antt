use Rattle.std.proofs.Common.{◌≡◌, subst}
use Rattle.pcap_core.specs.Codec.{number_bytes}
use Rattle.pcap_core.specs.declared.common.Endianness.{Endianness}
use Rattle.pcap_classic.specs.PacketText.{Captured, content_of}
use Rattle.pcap_classic.specs.Written.{record_bytes}
use Rattle.pcap_program.specs.Lines.{WritesLine}
use Rattle.pcapfile_as_is.proofs.repairs.RepairsTeller.put.Goals as goal

pub returns-clause-writes : goal.returns-clause-writes
returns-clause-writes g c =
    let r = c.args.ts_resolution in
    let before = g.W.Write.contents c.args.output.now in
    let now = g.W.Write.contents c.put_made.new.output in
    let result = c.put_made.result in
    let order = subst (λ (o : Endianness). WritesLine (λ line. line ≡ record_bytes (number_bytes o) r (content_of c.repaired-made.result)) before now result) c.tell.ensures.order c.put_made.ensures in
    subst (λ (x : Captured). WritesLine (λ line. line ≡ record_bytes (number_bytes c.args.self.now.order) r x) before now result) c.repaired-made.ensures order

use Rattle.std.proofs.Common.{◌≡◌, ◌+◌, ◌∙◌, Ok, Err, refl, subst, arith}
use Rattle.std.proofs.lemmas.Result.{err_from_is_err_and}
use Rattle.pcap_core.specs.Answer.{whole}
use Rattle.pcap_classic.specs.PacketText.{packet_limit, content_of}
use Rattle.pcap_classic.specs.Packets.{packet_format}
use Rattle.pcap_classic.proofs.HeadedPackets.{packets_lawful}
use Rattle.pcap_classic.proofs.Packets.{packets_say}
use Rattle.pcap_program.specs.Lines.{WritesLine}
use Rattle.capcopy_run.specs.PacketLines.{of_header}
use Rattle.capcopy_run.proofs.Turns.{walked_none, walked_more, walked_torn, walked_used}
use Rattle.capcopy_run.proofs.packets.list_shown.Goals as goal

pub loop-listed-init : goal.loop-listed-init
loop-listed-init g c = record { same = refl; walked = walked_none (of_header (g.L.PacketLine.line (g.L.PacketLine.setting c.args.lines.now))) _ tt _ _ _; more = omega arith; within = c.requires }

pub returns-in_err-write_line-clause-walks : goal.returns-in_err-write_line-clause-walks
returns-in_err-write_line-clause-walks g c =
    let order = g.B.ByteOrder.number_of in
    let r = c.args.ts_resolution in
    let rest = c.loop-listed.rest.now in
    let after = c.in-Ok.after.now in
    let packet = content_of c.in-Ok.packet in
    let stands = packets_say packet_limit order r tt rest (whole packet after) c.in-Ok.ensures.tells in
    let p = err_from_is_err_and c.from_residual.result c.from_residual.ensures.1 in
    let same : g.L.PacketLine.setting c.loop-listed.lines ≡ g.L.PacketLine.setting c.args.lines.now = c.loop-listed.invariant.same in
    let writes = subst (λ setting. WritesLine (g.L.PacketLine.line setting (c.loop-listed.listed + 1) c.in-Ok.packet.header) (g.W.Write.contents c.loop-listed.output) (g.W.Write.contents c.write_line.new.output) (Err c.in_err-write_line.field-0.0)) same c.in_err-write_line.ensures.writes in
    rw (p.1, p.2) (walked_torn (of_header (g.L.PacketLine.line (g.L.PacketLine.setting c.args.lines.now))) (packet_format packet_limit order r) (packets_lawful packet_limit order r) tt tt _ rest after _ _ _ c.loop-listed.listed c.loop-listed.invariant.walked packet stands tt _ c.loop-listed.listed c.args.most _ c.loop-listed-test.true writes)

pub loop-listed-preserved : goal.loop-listed-preserved
loop-listed-preserved g c =
    let order = g.B.ByteOrder.number_of in
    let r = c.args.ts_resolution in
    let rest = c.loop-listed.rest.now in
    let after = c.in-Ok.after.now in
    let packet = content_of c.in-Ok.packet in
    let stands = packets_say packet_limit order r tt rest (whole packet after) c.in-Ok.ensures.tells in
    let same : g.L.PacketLine.setting c.loop-listed.lines ≡ g.L.PacketLine.setting c.args.lines.now = c.loop-listed.invariant.same in
    let writes = subst (λ setting. WritesLine (g.L.PacketLine.line setting (c.loop-listed.listed + 1) c.in-Ok.packet.header) (g.W.Write.contents c.loop-listed.output) (g.W.Write.contents c.write_line.new.output) (Ok tt)) same c.in_ok-write_line.ensures.writes in
    record {
      same = c.in_ok-write_line.ensures.same ∙ same;
      walked = walked_more (of_header (g.L.PacketLine.line (g.L.PacketLine.setting c.args.lines.now))) (packet_format packet_limit order r) (packets_lawful packet_limit order r) tt tt _ rest after _ _ _ c.loop-listed.listed c.loop-listed.invariant.walked packet stands tt _ refl writes;
      more = omega (arith, c.loop-listed.invariant.more);
      within = omega (arith, c.loop-listed-test.true);
    }

pub returns-clause-walks : goal.returns-clause-walks
returns-clause-walks g c = walked_used (of_header (g.L.PacketLine.line (g.L.PacketLine.setting c.args.lines.now))) _ tt tt _ _ _ _ _ _ c.args.most c.loop-listed.invariant.walked

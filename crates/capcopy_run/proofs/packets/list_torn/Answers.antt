use Rattle.std.proofs.Common.{inl, refl}
use Rattle.std.proofs.KnownBytes.{Keeps-refl}
use Rattle.std.proofs.lemmas.Result.{err_from_is_err_and}
use Rattle.pcap_classic.specs.PacketText.{packet_limit, Captured}
use Rattle.pcap_classic.specs.Packets.{packet_format}
use Rattle.pcap_classic.proofs.HeadedPackets.{packets_lawful}
use Rattle.pcap_classic.proofs.PacketStream.{header_refuses_packet}
use Rattle.capcopy_run.specs.PacketLines.{of_header}
use Rattle.capcopy_run.proofs.Listing.{ends_torn, any_torn, asked_refused}
use Rattle.capcopy_run.proofs.PacketLists.{packet_skipped, packet_unread, packet_asked}
use Rattle.capcopy_run.proofs.Turns.{ends_here, turn_more}
use Rattle.capcopy_run.proofs.packets.list_torn.Goals as goal

pub returns-in_err-header-clause-turn : goal.returns-in_err-header-clause-turn
returns-in_err-header-clause-turn g c =
    let order = g.B.ByteOrder.number_of in
    let r = c.args.ts_resolution in
    let p = err_from_is_err_and c.from_residual.result c.from_residual.ensures.1 in
    let e = c.in_err-header.field-0.0 in
    let why = header_refuses_packet packet_limit order r e _ (g.R.Read.remaining c.from_reader.new.reader) c.in_err-header.ensures in
    let asked = packet_asked order r _ _ why.0 in
    rw p.1 (ends_here (of_header (g.L.PacketLine.line (g.L.PacketLine.setting c.args.lines.now))) (packet_format packet_limit order r) tt _ _ _ _ _ _ _ (packet_unread (of_header (g.L.PacketLine.line (g.L.PacketLine.setting c.args.lines.now))) order r _ _ c.args.listed.now c.args.most c.requires e p.0 why.1 p.2) (asked_refused (of_header (g.L.PacketLine.line (g.L.PacketLine.setting c.args.lines.now))) ((packet_format packet_limit order r).says tt) _ (g.W.Write.contents c.args.output.now) c.args.listed.now c.args.most c.requires _ e p.0 asked p.2))

pub returns-in_err-skip_exact-clause-turn : goal.returns-in_err-skip_exact-clause-turn
returns-in_err-skip_exact-clause-turn g c =
    let p = err_from_is_err_and c.from_residual-in_err-skip_exact.result c.from_residual-in_err-skip_exact.ensures.1 in
    rw (p.1, p.2) (ends_here (of_header (g.L.PacketLine.line (g.L.PacketLine.setting c.args.lines.now))) (packet_format packet_limit g.B.ByteOrder.number_of c.args.ts_resolution) tt _ _ _ _ _ _ _ (c.requires, inl (Keeps-refl _)) tt)

pub returns-in_err-write_line-clause-turn : goal.returns-in_err-write_line-clause-turn
returns-in_err-write_line-clause-turn g c =
    let order = g.B.ByteOrder.number_of in
    let r = c.args.ts_resolution in
    let f = packet_format packet_limit order r in
    let took = packet_skipped order r _ _ _ c.in_ok-header.header c.in_ok-header.ensures c.in_ok-skip_exact.ensures.skipped in
    let p = err_from_is_err_and c.from_residual-in_err-write_line.result c.from_residual-in_err-write_line.ensures.1 in
    let writes = c.in_err-write_line.ensures.writes in
    let packet : Captured = record { header = c.in_ok-header.header; bytes = c.in_ok-skip_exact.ensures.skipped.0 } in
    rw (p.1, p.2) (ends_here (of_header (g.L.PacketLine.line (g.L.PacketLine.setting c.args.lines.now))) f tt _ _ _ _ _ _ _ (ends_torn (of_header (g.L.PacketLine.line (g.L.PacketLine.setting c.args.lines.now))) (f.says tt) _ _ c.args.listed.now c.args.most c.requires _ _ _ _ took writes) (any_torn (of_header (g.L.PacketLine.line (g.L.PacketLine.setting c.args.lines.now))) (f.says tt) (g.R.Read.remaining c.args.input.now) _ c.args.listed.now c.args.most c.requires _ _ packet _ writes))

pub returns-clause-turn : goal.returns-clause-turn
returns-clause-turn g c =
    let order = g.B.ByteOrder.number_of in
    let r = c.args.ts_resolution in
    let took = packet_skipped order r _ _ _ c.in_ok-header.header c.in_ok-header.ensures c.in_ok-skip_exact.ensures.skipped in
    turn_more (of_header (g.L.PacketLine.line (g.L.PacketLine.setting c.args.lines.now))) (packet_format packet_limit order r) (packets_lawful packet_limit order r) tt tt _ _ _ _ c.args.listed.now _ took refl c.in_ok-write_line.ensures.writes

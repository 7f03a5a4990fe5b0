use Rattle.std.proofs.Common.{◌≡◌, length, take, refl, arith}
use Rattle.std.proofs.lemmas.Result.{err_from_is_err_and}
use Rattle.pcap_items.specs.Window.{bytes_of, shown_of}
use Rattle.pcap_classic.specs.PacketText.{packet_limit}
use Rattle.pcap_classic.specs.Parser.{header_of}
use Rattle.pcap_classic.proofs.CaptureFormat.{capture_lawful}
use Rattle.pcap_classic.specs.Run.{HasPacket}
use Rattle.pcap_classic.proofs.Exact.{first_shown, header_refuses, header_all, exact_is, has_packet}
use Rattle.pcap_classic.proofs.run.exact.exact_pcap.Goals as goal

pub returns-in_err-parser-clause-refused : goal.returns-in_err-parser-clause-refused
returns-in_err-parser-clause-refused c =
    let bytes = bytes_of c.args.window.now in
    let first = first_shown c.ask-shown.result _ _ (length bytes) c.requires c.ask-shown.ensures.count c.ask-shown.ensures.shown (omega (arith, c.if-shown-lt-HEADER_BYTES.false)) in
    let p = err_from_is_err_and c.from_residual.result c.from_residual.ensures.1 in
    let seen : c.seen.result.now ≡ take 24 bytes = rw (← first.0, ← c.ask-shown.ensures.bytes) c.seen.ensures.seen in
    rw (p.1, p.2) (header_refuses (HasPacket bytes) bytes first.1 c.in_err-parser.field-0.0 (rw seen at c.in_err-parser.ensures.tells))

pub show_items-requires : goal.show_items-requires
show_items-requires c =
    let first = first_shown c.ask-shown.result _ _ (length (bytes_of c.args.window.now)) c.requires c.ask-shown.ensures.count c.ask-shown.ensures.shown (omega (arith, c.if-shown-lt-HEADER_BYTES.false)) in
    λ k. ((refl, tt), (capture_lawful packet_limit, (omega arith, omega (arith, first.0))))

pub returns-in_err-run-clause-refused : goal.returns-in_err-run-clause-refused
returns-in_err-run-clause-refused c =
    let bytes = bytes_of c.args.window.now in
    let first = first_shown c.ask-shown.result _ _ (length bytes) c.requires c.ask-shown.ensures.count c.ask-shown.ensures.shown (omega (arith, c.if-shown-lt-HEADER_BYTES.false)) in
    let seen : c.seen.result.now ≡ take 24 bytes = rw (← first.0, ← c.ask-shown.ensures.bytes) c.seen.ensures.seen in
    let header = header_of c.in_ok-parser.parser in
    let text = header_all header bytes _ first.1 (rw seen at c.in_ok-parser.ensures.tells) in
    let shown : shown_of c.ask-shown.new.self ≡ 24 = first.0 in
    let memory = rw (c.ask-shown.ensures.bytes, shown) at c.in_err-run.ensures.memory in
    let e = err_from_is_err_and c.from_residual-in_err-run.result c.from_residual-in_err-run.ensures.1 in
    rw (e.1, e.2) (has_packet header bytes _ text memory)

pub returns-clause-run : goal.returns-clause-run
returns-clause-run c =
    let bytes = bytes_of c.args.window.now in
    let first = first_shown c.ask-shown.result _ _ (length bytes) c.requires c.ask-shown.ensures.count c.ask-shown.ensures.shown (omega (arith, c.if-shown-lt-HEADER_BYTES.false)) in
    let seen : c.seen.result.now ≡ take 24 bytes = rw (← first.0, ← c.ask-shown.ensures.bytes) c.seen.ensures.seen in
    let header = header_of c.in_ok-parser.parser in
    let text = header_all header bytes _ first.1 (rw seen at c.in_ok-parser.ensures.tells) in
    let shown : shown_of c.ask-shown.new.self ≡ 24 = first.0 in
    exact_is _ c.in_ok-run.run'.ended header bytes _ _ _ text c.from.ensures (rw (← c.header.ensures, c.ask-shown.ensures.bytes, shown, c.ask-shown.ensures.requests) at c.in_ok-run.ensures.items)

use Rattle.std.proofs.Common.{map, refl, ◌≡◌, ◌∷◌}
use Rattle.std.proofs.lemmas.Result.{err_from_is_err_and}
use Rattle.pcap_items.proofs.Items.{grows_some}
use Rattle.pcap_classic.specs.PacketText.{packet_limit, content_of}
use Rattle.pcap_classic.specs.Packets.{capture_format}
use Rattle.pcap_classic.specs.Parser.{header_of}
use Rattle.pcap_classic.proofs.CaptureFormat.{capture_lawful, front_under, run_under}
use Rattle.pcap_parts.proofs.part.parse_part.Goals as goal

pub parse_items-requires : goal.parse_items-requires
parse_items-requires c = λ k. ((refl, tt), capture_lawful packet_limit)

pub returns-clause-runs : goal.returns-clause-runs
returns-clause-runs c =
    let header = header_of c.in_ok-parser.parser in
    let part = c.args.part.now in
    let run = c.in_ok-run.run' in
    let front = c.in_ok-run.ensures.front in
    let u = run_under header (header_of c.parse_items.new.parser) (map content_of run.items.items) part front.left run.ended front.leads front.ends in
    let same : header ≡ c.args.header = c.in_ok-parser.ensures.1 in
    record {
      same = refl;
      runs = record {
        left = front.left;
        front = rw (← same) u.front;
        used_is = front.used_is;
        rest = rw (c.from.ensures, ← same) u.rest;
      };
    }

pub returns-in_err-run-clause-refused : goal.returns-in_err-run-clause-refused
returns-in_err-run-clause-refused c =
    let header = header_of c.in_ok-parser.parser in
    let part = c.args.part.now in
    let same : header ≡ c.args.header = c.in_ok-parser.ensures.1 in
    let some = grows_some (capture_format packet_limit) (capture_lawful packet_limit) header part c.in_err-run.ensures.memory in
    let e = err_from_is_err_and c.from_residual-in_err-run.result c.from_residual-in_err-run.ensures.1 in
    rw (e.1, e.2, ← same) (some.0, some.1, some.2, front_under packet_limit header (some.0 ∷ some.1) part some.2 some.3)

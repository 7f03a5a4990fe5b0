use Rattle.std.proofs.Common.{◌≡◌, map, refl, ap, arith}
use Rattle.std.proofs.lemmas.Result.{err_from_is_err_and}
use Rattle.pcap_items.specs.Items.{rest_of}
use Rattle.pcap_items.proofs.Items.{ended_rest}
use Rattle.pcap_classic.specs.Parser.{header_of}
use Rattle.pcap_classic.proofs.Texts.{header_length}
use Rattle.pcap_tolerant.specs.AsIs.{as_it_is}
use Rattle.pcap_tolerant.specs.Run.{Setting, any_as_is, setting_of}
use Rattle.pcap_tolerant.proofs.Runs.{any_lawful, run_under, has_packet}
use Rattle.pcap_tolerant.proofs.run.parse_pcap_as_is.Goals as goal

pub parse_items-requires : goal.parse_items-requires
parse_items-requires c = λ k. ((refl, tt), any_lawful)

pub returns-clause-front : goal.returns-clause-front
returns-clause-front c =
    let header = header_of c.in_ok-after_header.parser in
    let q : Setting = record { header = header; limit = c.args.limit } in
    let next = setting_of c.parse_items.new.parser in
    let after = c.in_ok-after_header.after_header.now in
    let run = c.in_ok-run.run' in
    let front = c.in_ok-run.ensures.front in
    let u = run_under q next (map as_it_is run.items.items) after front.left (rest_of run.ended) front.leads (ended_rest (any_as_is.says next) front.left run.ended front.ends) in
    let same : header ≡ next.header = ap (λ (s : Setting). s.header) u.same in
    let text = c.in_ok-after_header.ensures.tells in
    record {
      left = front.left;
      front = record { after = after; header_text = rw (c.header.ensures, ← same) text; front = rw (c.header.ensures, ← same) u.front };
      used = omega (arith, front.used_is, header_length header c.args.bytes.now after text);
      rest = rw (c.from.ensures, c.header.ensures, ← same) u.rest_is;
    }

pub returns-in_err-run-clause-memory : goal.returns-in_err-run-clause-memory
returns-in_err-run-clause-memory c =
    let q : Setting = record { header = header_of c.in_ok-after_header.parser; limit = c.args.limit } in
    let e = err_from_is_err_and c.from_residual-in_err-run.result c.from_residual-in_err-run.ensures.1 in
    rw e.1 (λ memory. has_packet q c.args.bytes.now c.in_ok-after_header.after_header.now c.in_ok-after_header.ensures.tells c.in_err-run.ensures.memory)

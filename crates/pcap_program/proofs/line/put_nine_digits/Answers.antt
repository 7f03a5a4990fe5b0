use Rattle.std.proofs.Common.{arith, rules, ◌≡◌, ◌/◌, ◌^◌, ◌≤◌, length, append_assoc}
use Rattle.std.specs.Fmt.{decimal}
use Rattle.std.proofs.lemmas.Fmt.{length-decimal-le}
use Rattle.pcap_program.proofs.FixedPoint.{first, pairs_fixed, nine_pairs}
use Rattle.pcap_program.proofs.line.put_nine_digits.Goals as goal

pub write_digits-requires : goal.write_digits-requires
write_digits-requires c =
    let same : c.from-first.result ≡ c.args.number = search rules in
    let short : length (decimal (first c.from-first.result / 2 ^ 57)) ≤ 2 = length-decimal-le 2 _ (omega arith) (omega (arith, same)) (omega (arith, same)) in
    (omega (arith, short), omega arith)

pub returns-clause-start : goal.returns-clause-start
returns-clause-start c =
    let same : c.from-first.result ≡ c.args.number = search rules in
    let short : length (decimal (first c.from-first.result / 2 ^ 57)) ≤ 2 = length-decimal-le 2 _ (omega arith) (omega (arith, same)) (omega (arith, same)) in
    (omega (arith, c.write_digits.ensures.start), omega (arith, c.write_digits.ensures.start, short))

pub returns-clause-text : goal.returns-clause-text
returns-clause-text c =
    let same : c.from-first.result ≡ c.args.number = search rules in
    let pairs = pairs_fixed c.args.number (omega arith) in
    rw (c.write_digits.ensures.written, c.put_two_digits-start-4.ensures.text, c.put_two_digits-start-3.ensures.text, c.put_two_digits-start-2.ensures.text, c.put_two_digits-start.ensures.text, same, pairs.0, pairs.1, pairs.2, pairs.3, pairs.4, nine_pairs c.args.number (omega arith))
    (search (rules, append_assoc))

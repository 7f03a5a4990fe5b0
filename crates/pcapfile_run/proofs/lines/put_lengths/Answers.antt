use Rattle.std.proofs.Common.{rules, ◌≡◌, refl}
use Rattle.pcapfile_run.proofs.lines.put_lengths.Goals as goal

pub returns-clause-text : goal.returns-clause-text
returns-clause-text c =
    let by : c.from.result ≡ c.args.interface = search rules in
    let had : c.from-2.result ≡ c.args.original = search rules in
    rw (c.put_byte.ensures.text, c.put_number-start-3.ensures.text, c.put_byte-start-2.ensures.text, c.put_number-start-2.ensures.text, c.put_byte-start.ensures.text, c.put_number-start.ensures.text, by, had) refl

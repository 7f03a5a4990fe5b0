use Rattle.std.proofs.Common.{◌≡◌, ◌+◌, ◌-◌, ◌%◌, set, arith, length-set}
use Rattle.std.proofs.lemmas.List.{set_comm, drop-set}
use Rattle.pcap_program.proofs.Digits.{digits_at}
use Rattle.pcap_program.proofs.line.put_two_digits.Goals as goal

pub returns-clause-text : goal.returns-clause-text
returns-clause-text c =
    let both = digits_at c.args.number c.requires.2 in
    let start = c.args.end - 2 in
    let room = c.args.room.now in
    let ones = 48 + c.args.number % 10 in
    let after : start + 1 + 1 ≡ c.args.end = omega arith in
    rw (both.0, both.1, set_comm room start (start + 1) _ _ (λ e. omega arith), drop-set (set room (start + 1) ones) start _ (omega (arith, length-set room (start + 1) ones)), drop-set room (start + 1) _ (omega arith), after)

use Rattle.std.proofs.Common.{◌≡◌, ◌++◌, ◌∷◌, drop, codes, refl, sym, inl, inr, append_assoc}
use Rattle.std.specs.Fmt.{decimal}
use Rattle.pcap_program.specs.Digits.{nine_digits}
use Rattle.pcapfile_run.proofs.lines.put_time.Goals as goal

pub returns-in_default-clause-text : goal.returns-in_default-clause-text
returns-in_default-clause-text c = (codes "-", inr ((rw c.in_default.is at c.seconds_of.ensures), refl), c.put_byte.ensures.text)

pub returns-clause-text : goal.returns-clause-text
returns-clause-text c =
    let behind = drop c.args.end c.args.room.now in
    let tail = 46 ∷ nine_digits c.args.time.nanoseconds in
    let made : drop c.put_number.result c.put_number.new.room ≡ (decimal c.in-Some.seconds ++ tail) ++ behind = rw (c.put_number.ensures.text, c.put_byte-start.ensures.text, c.put_nine_digits-start.ensures.text) (sym (append_assoc (decimal c.in-Some.seconds) tail behind)) in
    (decimal c.in-Some.seconds ++ tail, inl (c.in-Some.seconds, c.in-Some.ensures.0, c.in-Some.ensures.1, refl), made)

use Rattle.std.proofs.Common.{rules, ◌≡◌, ◌/◌, ◌%◌, ◌∙◌, ℕ, ap, refl}
use Rattle.pcap_tolerant.specs.AsIs.{as_it_is}
use Rattle.pcapfile_as_is.specs.Lists.{exact_time}
use Rattle.pcapfile_as_is.proofs.listed.make_line.Goals as goal

pub returns-clause-line : goal.returns-clause-line
returns-clause-line c =
    let head = (as_it_is c.args.packet.now).head in
    let seconds : c.as_secs.result ≡ exact_time c.args.ts_resolution head / 1_000_000_000 = c.as_secs.ensures ∙ ap (λ (n : ℕ). n / 1_000_000_000) c.timestamp-time.ensures in
    let nanos : c.subsec_nanos.result ≡ exact_time c.args.ts_resolution head % 1_000_000_000 = c.subsec_nanos.ensures ∙ ap (λ (n : ℕ). n % 1_000_000_000) c.timestamp-time.ensures in
    let had : c.from.result ≡ c.args.packet.now.orig_len = search rules in
    let stored : c.from-2.result ≡ c.args.packet.now.incl_len = search rules in
    rw (
      c.put_number.ensures.text,
      c.put_byte-start-4.ensures.text,
      c.put_number-start-3.ensures.text,
      c.put_byte-start-3.ensures.text,
      c.put_nine_digits-start.ensures.text,
      c.put_byte-start-2.ensures.text,
      c.put_number-start-2.ensures.text,
      c.put_byte-start.ensures.text,
      c.put_number-start.ensures.text,
      c.put_marks-start.ensures.text,
      seconds,
      nanos,
      had,
      stored,
    ) refl

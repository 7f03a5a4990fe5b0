use Rattle.std.proofs.Common.{ℕ, List, refl, subst, arith, drop}
use Rattle.pcap_variants.specs.Shown.{Shows}
use Rattle.pcap_variants.proofs.recognized.variant_of.Goals as goal

pub returns-then-bytes-lt-HEADER : goal.returns-then-bytes-lt-HEADER
returns-then-bytes-lt-HEADER c = record { short = λ e. refl; long = λ e. absurd (omega (arith, e, c.if-bytes-lt-HEADER.true)) }

pub returns : goal.returns
returns c = record {
  short = λ e. absurd (omega (arith, e, c.if-bytes-lt-HEADER.false));
  long = λ e. subst (λ (magic : ℕ). Shows magic (drop 24 c.args.bytes.now) c.shown.result) c.read_u32.ensures
      (subst (λ (s : List ℕ). Shows c.read_u32.result s c.shown.result) c.behind.ensures c.shown.ensures);
}

use Rattle.std.proofs.Common.{refl, arith}
use Rattle.pcap_variants.proofs.recognized.shown.Goals as goal

pub returns-then-magic-eq2712849716 : goal.returns-then-magic-eq2712849716
returns-then-magic-eq2712849716 c = record {
  modified = λ e. (refl, c.modified.ensures);
  modified_little = λ e. absurd (omega (arith, e, c.if-magic-eq2712849716.true));
  plain = λ e. absurd (omega (arith, e, c.if-magic-eq2712849716.true));
  plain_little = λ e. absurd (omega (arith, e, c.if-magic-eq2712849716.true));
  other = λ no. absurd (no.modified c.if-magic-eq2712849716.true);
}

pub returns-then-magic-eq885895841 : goal.returns-then-magic-eq885895841
returns-then-magic-eq885895841 c = record {
  modified = λ e. absurd (omega (arith, e, c.if-magic-eq885895841.true));
  modified_little = λ e. (refl, c.modified-then-magic-eq885895841.ensures);
  plain = λ e. absurd (omega (arith, e, c.if-magic-eq885895841.true));
  plain_little = λ e. absurd (omega (arith, e, c.if-magic-eq885895841.true));
  other = λ no. absurd (no.modified_little c.if-magic-eq885895841.true);
}

pub returns-then-magic-eq2712847316 : goal.returns-then-magic-eq2712847316
returns-then-magic-eq2712847316 c = record {
  modified = λ e. absurd (omega (arith, e, c.if-magic-eq2712847316.true));
  modified_little = λ e. absurd (omega (arith, e, c.if-magic-eq2712847316.true));
  plain = λ e. c.plain.ensures;
  plain_little = λ e. absurd (omega (arith, e, c.if-magic-eq2712847316.true));
  other = λ no. absurd (no.plain c.if-magic-eq2712847316.true);
}

pub returns-then-magic-eq3569595041 : goal.returns-then-magic-eq3569595041
returns-then-magic-eq3569595041 c = record {
  modified = λ e. absurd (omega (arith, e, c.if-magic-eq3569595041.true));
  modified_little = λ e. absurd (omega (arith, e, c.if-magic-eq3569595041.true));
  plain = λ e. absurd (omega (arith, e, c.if-magic-eq3569595041.true));
  plain_little = λ e. c.plain-then-magic-eq3569595041.ensures;
  other = λ no. absurd (no.plain_little c.if-magic-eq3569595041.true);
}

pub returns-else-magic-eq3569595041 : goal.returns-else-magic-eq3569595041
returns-else-magic-eq3569595041 c = record {
  modified = λ e. absurd (c.if-magic-eq2712849716.false e);
  modified_little = λ e. absurd (c.if-magic-eq885895841.false e);
  plain = λ e. absurd (c.if-magic-eq2712847316.false e);
  plain_little = λ e. absurd (c.if-magic-eq3569595041.false e);
  other = λ no. refl;
}

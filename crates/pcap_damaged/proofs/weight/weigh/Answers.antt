use Rattle.std.proofs.Common.{arith, inl, inr}
use Rattle.pcap_damaged.specs.Heads.{head_in}
use Rattle.pcap_damaged.proofs.Texts.{untrue}
use Rattle.pcap_damaged.proofs.weight.weigh.Goals as goal

pub returns-then-ends_well : goal.returns-then-ends_well
returns-then-ends_well c = inr (head_in c.in-Some.head, c.in-Some.data.now, c.in-Some.ensures, inl (c.ends_well.ensures.0 c.if-ends_well.true))

pub returns-then-whole_ends_well : goal.returns-then-whole_ends_well
returns-then-whole_ends_well c =
    inr (
      head_in c.in-Some.head,
      c.in-Some.data.now,
      c.in-Some.ensures,
      (
        (λ ends. untrue c.if-ends_well.false (c.ends_well.ensures.1 ends)),
        c.whole_ends_well.ensures.0 c.if-whole_ends_well.true,
        c.whole_length.ensures,
      ),
    )

pub returns-then-is_opposed : goal.returns-then-is_opposed
returns-then-is_opposed c =
    inr (
      head_in c.in-Some.head,
      c.in-Some.data.now,
      c.in-Some.ensures,
      (
        record { stored = λ ends. untrue c.if-ends_well.false (c.ends_well.ensures.1 ends); whole = λ ends. untrue c.if-whole_ends_well.false (c.whole_ends_well.ensures.1 ends) },
        c.is_opposed.ensures.0 c.if-is_opposed.true,
      ),
    )

pub returns-then-slice-head : goal.returns-then-slice-head
returns-then-slice-head c =
    inr (
      head_in c.in-Some.head,
      c.in-Some.data.now,
      c.in-Some.ensures,
      (
        record {
          nowhere = record { stored = λ ends. untrue c.if-ends_well.false (c.ends_well.ensures.1 ends); whole = λ ends. untrue c.if-whole_ends_well.false (c.whole_ends_well.ensures.1 ends) };
          unopposed = λ opposed. untrue c.if-is_opposed.false (c.is_opposed.ensures.1 opposed);
        },
        omega (arith, c.if-slice-head.true),
      ),
    )

pub returns : goal.returns
returns c =
    inr (
      head_in c.in-Some.head,
      c.in-Some.data.now,
      c.in-Some.ensures,
      inr (
        record {
          nowhere = record { stored = λ ends. untrue c.if-ends_well.false (c.ends_well.ensures.1 ends); whole = λ ends. untrue c.if-whole_ends_well.false (c.whole_ends_well.ensures.1 ends) };
          unopposed = λ opposed. untrue c.if-is_opposed.false (c.is_opposed.ensures.1 opposed);
        },
        omega (arith, c.if-slice-head.false),
      ),
    )

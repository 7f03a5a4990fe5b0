use Rattle.std.proofs.Common.{◌≡◌, ◌++◌, rules, sym, ◌∙◌, None}
use Rattle.pcap_ng.specs.Frames.{FrameHeadText, own_order, no_order, unaligned, too_short}
use Rattle.pcap_ng.proofs.pcapng.framing.split_head.Goals as goal

pub returns-in_default : goal.returns-in_default
returns-in_default c =
    let none : own_order c.args.order c.split_u32_in-number.result.0 c.split_u32-magic.result.0 ≡ None = sym c.order_of.ensures ∙ c.in_default.is in
    let split : c.split_u32_in-number.result.1.now ≡ c.split_at.result.0.now ++ c.split_at.result.1.now = search rules in
    no_order (record {
      number = c.split_u32_in-number.result.0;
      magic = c.split_u32-magic.result.0;
      after_number = c.split_u32_in-number.result.1.now;
      after = c.split_at.result.1.now;
      more = c.split_u32-magic.result.1.now;
      number_is = c.split_u32_in-number.ensures.number;
      len_is = record { bytes = c.split_at.result.0.now; text = split; length_is = c.split_at.ensures.front_len };
      magic_is = c.split_u32-magic.ensures.number;
      none = none;
    })

pub returns-then-len-ne0 : goal.returns-then-len-ne0
returns-then-len-ne0 c =
    let head : FrameHeadText c.args.order c.split_u32_in-number.result.0 c.in-Some.endianness c.u32_in-len.result c.args.slice.now c.split_at.result.1.now = search rules in
    unaligned _ _ _ _ head c.if-len-ne0.true

pub returns-then-len-lt12 : goal.returns-then-len-lt12
returns-then-len-lt12 c =
    let head : FrameHeadText c.args.order c.split_u32_in-number.result.0 c.in-Some.endianness c.u32_in-len.result c.args.slice.now c.split_at.result.1.now = search rules in
    too_short _ _ _ _ head c.if-len-ne0.false c.if-len-lt12.true

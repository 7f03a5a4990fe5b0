use Rattle.std.proofs.Common.{arith}
use Rattle.pcap_ng.proofs.EnhancedFrames.{enhanced_framed, holds_all, is_aligned, is_enhanced, same_again}
use Rattle.pcap_ng.proofs.pcapng.enhanced.split_frame.Goals.{then-number-ne-ENHANCED-via-then-number-ne-ENHANCED, then-number-ne-ENHANCED-via-else-number-ne-ENHANCED+then-len-ne0, then-used-lt12-via-then-used-lt12, then-used-lt12-via-else-used-lt12+then-slice-used}
use Rattle.pcap_ng.proofs.pcapng.enhanced.split_frame.Goals as goal

pub returns-then-number-ne-ENHANCED : goal.returns-then-number-ne-ENHANCED
returns-then-number-ne-ENHANCED g c = λ body rest frame.
    let number = c.split_u32-number in
    let len = c.split_u32-len in
    elim c.then-number-ne-ENHANCED.branch [
      | then-number-ne-ENHANCED-via-then-number-ne-ENHANCED w ↦
          let six = is_enhanced c.args.order g.B.ByteOrder.number_of c.requires number.result.0 len.result.0 _ _ _ number.ensures.number len.ensures.number body rest frame in
          absurd (omega (arith, six, w.if-number-ne-ENHANCED.true))
      | then-number-ne-ENHANCED-via-else-number-ne-ENHANCED+then-len-ne0 w ↦
          absurd (w.if-len-ne0.true (is_aligned c.args.order g.B.ByteOrder.number_of c.requires number.result.0 len.result.0 _ _ _ number.ensures.number len.ensures.number body rest frame))
    ]

pub returns-then-used-lt12 : goal.returns-then-used-lt12
returns-then-used-lt12 g c = λ body rest frame.
    let number = c.split_u32-number in
    let len = c.split_u32-len in
    let all = holds_all c.args.order g.B.ByteOrder.number_of c.requires number.result.0 len.result.0 _ _ _ number.ensures.number len.ensures.number body rest frame in
    elim c.then-used-lt12.branch [
      | then-used-lt12-via-then-used-lt12 w ↦ absurd (omega (arith, all.0, w.if-used-lt12.true))
      | then-used-lt12-via-else-used-lt12+then-slice-used w ↦ absurd (omega (arith, all.1, w.if-slice-used.true))
    ]

pub returns-then-again-len : goal.returns-then-again-len
returns-then-again-len g c = λ body rest frame.
    let number = c.split_u32-number in
    let len = c.split_u32-len in
    let again = c.split_u32-again in
    let cut = c.split_at.ensures in
    absurd (c.if-again-len.true (same_again c.args.order g.B.ByteOrder.number_of c.requires number.result.0 len.result.0 _ _ _ number.ensures.number len.ensures.number body rest frame again.result.0 c.split_at.result.0.now c.split_at.result.1.now again.result.1.now cut.by_index.0 (omega (arith, cut.front_len, c.if-used-lt12.false)) again.ensures.number))

pub returns : goal.returns
returns g c =
    let number = c.split_u32-number in
    let len = c.split_u32-len in
    let again = c.split_u32-again in
    let cut = c.split_at.ensures in (
      len.result.0,
      enhanced_framed c.args.order g.B.ByteOrder.number_of c.requires number.result.0 len.result.0 again.result.0 _ _ _ _ _ _
          number.ensures.number len.ensures.number again.ensures.number cut.by_index.0 (omega (arith, c.if-number-ne-ENHANCED.false)) (omega arith) c.if-len-ne0.false (omega (arith, c.if-again-len.false)),
    )

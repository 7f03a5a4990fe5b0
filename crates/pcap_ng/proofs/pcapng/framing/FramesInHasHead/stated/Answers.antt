use Rattle.std.proofs.Common.{◌≡◌, ◌∙◌, ◌-◌, length, arith}
use Rattle.pcap_ng.specs.Frames.{frame_format}
use Rattle.pcap_ng.specs.StatedFrames.{KnowsFrame}
use Rattle.pcap_ng.proofs.StatedFrames.{frame_head, frame_lacks, frame_settled, frame_breaks}
use Rattle.pcap_items.proofs.Settling.{named_states}
use Rattle.pcap_ng.proofs.pcapng.framing.FramesInHasHead.stated.Goals as goal

pub split_head-requires : goal.split_head-requires
split_head-requires c = omega (arith, c.requires, frame_head c.args.self.now.order)

pub returns-in_err-head : goal.returns-in_err-head
returns-in_err-head c =
    let e = c.args.self.now.order in
    let s = c.args.bytes.now in
    let rule = c.in_err-head.field-0.0 in
    named_states (frame_format.says e) (KnowsFrame e) s rule c.from_residual.result (frame_breaks e s rule c.in_err-head.ensures) c.from_residual.ensures.1

pub returns : goal.returns
returns c =
    let e = c.args.self.now.order in
    let s = c.args.bytes.now in
    let head = c.in_ok-head.head in
    let long : length s ≡ 12 = c.requires ∙ frame_head e in
    let knows : KnowsFrame e head (head.len - 12) s = record { after = c.in_ok-head._after.now; text = c.in_ok-head.ensures.0; good = c.in_ok-head.ensures.1; follows = omega (arith, c.in_ok-head.ensures.1.1) } in
    (knows, λ none. frame_settled e head (head.len - 12) s long knows none, λ some. frame_lacks e head (head.len - 12) s long knows some)

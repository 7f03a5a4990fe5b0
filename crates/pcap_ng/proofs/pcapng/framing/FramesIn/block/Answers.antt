use Rattle.std.proofs.Common.{◌≡◌, [], List, ℕ, sym, subst, arith}
use Rattle.std.proofs.lemmas.List.{nil_from_length}
use Rattle.pcap_core.specs.declared.rules.Rule.{Rule}
use Rattle.pcap_core.specs.Answer.{whole, faulty}
use Rattle.pcap_core.specs.Faults.{Invalid}
use Rattle.pcap_ng.specs.Frames.{framed_of, frame_format, FrameHeadText, FrameFault, FrameText, unequal}
use Rattle.pcap_ng.proofs.FrameWords.{frames_say}
use Rattle.pcap_ng.proofs.StatedFrames.{head_of_all, stated_length, tail_text, tail_differs, tail_length}
use Rattle.pcap_items.proofs.Settling.{named_settles}
use Rattle.pcap_ng.proofs.pcapng.framing.FramesIn.block.Goals as goal

pub returns-in_err-_rest : goal.returns-in_err-_rest
returns-in_err-_rest c =
    let e = c.args.self.now.order in
    let h = c.args.head in
    let s = c.args.bytes.now in
    let rule = c.in_err-_rest.field-0.0 in
    let head : FrameHeadText e h.number h.endianness h.len s c.split_at.result.1.now = rw c.split_at.ensures.back (head_of_all e h s c.requires) in
    let differ = tail_differs e h s c.split_at.result.1.now head c.requires.knows.good c.in_err-_rest.ensures.tells.1 in
    let fault : FrameFault e s (Invalid rule) = subst (λ (r : Rule). FrameFault e s (Invalid r)) (sym c.in_err-_rest.ensures.tells.0) (unequal differ) in
    named_settles (frame_format.says e s) framed_of rule c.from_residual.result (frames_say e s (faulty (Invalid rule)) fault) c.from_residual.ensures.1

pub returns : goal.returns
returns c =
    let e = c.args.self.now.order in
    let h = c.args.head in
    let s = c.args.bytes.now in
    let x = c.in_ok-_rest in
    let b = framed_of x.block in
    let head : FrameHeadText e h.number h.endianness h.len s c.split_at.result.1.now = rw c.split_at.ensures.back (head_of_all e h s c.requires) in
    let text : FrameText e b s x._rest.now = tail_text e h s c.split_at.result.1.now head c.requires.knows.good b x._rest.now x.ensures.tells in
    let none : x._rest.now ≡ [] = nil_from_length x._rest.now (omega (arith, stated_length e h s c.requires, c.split_at.ensures.back_len, tail_length h b c.split_at.result.1.now x._rest.now x.ensures.tells)) in
    frames_say e s (whole b []) (subst (λ (l : List ℕ). FrameText e b s l) none text)

use Rattle.std.proofs.Common.{subst, arith}
use Rattle.pcap_core.specs.declared.common.Endianness.{Endianness}
use Rattle.pcap_core.specs.Answer.{lacks, faulty, Refuses}
use Rattle.pcap_ng.specs.Frames.{framed_of, FrameText, FrameSays}
use Rattle.pcap_tolerant_captures.specs.State.{order_at}
use Rattle.pcap_tolerant_captures.specs.HeldAsIs.{state_in}
use Rattle.pcap_tolerant_captures.specs.Blocks.{as_is_format}
use Rattle.pcap_tolerant_captures.proofs.Format.{as_is_lawful}
use Rattle.pcap_tolerant_captures.proofs.HeldBlocks.{whole_settled, head_refused}
use Rattle.pcap_tolerant_captures.proofs.stated.BlocksAsIsHasHead.stated.Goals as goal

pub returns-in-Ok : goal.returns-in-Ok
unfolding as_is_format
returns-in-Ok c =
    let q = state_in c.args.self.now.parser.now in
    let s = c.args.bytes.now in
    let b = framed_of c.in-Ok._whole.1 in
    let rest = c.in-Ok._whole.0.now in
    let frame : FrameText (order_at q) b s rest = subst (λ (e : Endianness). FrameText e b s rest) c.order_in.ensures c.in-Ok.ensures.tells in
    (tt, λ none. whole_settled q s b rest c.requires frame, λ some. absurd (omega (arith, some)))

pub returns-in-IncompleteBuffer : goal.returns-in-IncompleteBuffer
unfolding as_is_format
returns-in-IncompleteBuffer c =
    let q = state_in c.args.self.now.parser.now in
    let s = c.args.bytes.now in
    let n = c.in-IncompleteBuffer.n in
    let there : FrameSays c.order_in.result s (lacks n) = rw c.in-IncompleteBuffer.is at c.in-Err.ensures.tells in
    let lack : FrameSays (order_at q) s (lacks n) = subst (λ (e : Endianness). FrameSays e s (lacks n)) c.order_in.ensures there in
    (tt, λ none. absurd (omega (arith, none, as_is_lawful.asks q s n lack)), λ some. lack)

pub returns-in_default : goal.returns-in_default
unfolding as_is_format
returns-in_default c =
    let q = state_in c.args.self.now.parser.now in
    let s = c.args.bytes.now in
    let e = c.in-Err.e in
    let told : Refuses ⊥ (λ n. FrameSays (order_at q) s (lacks n)) (λ fault. FrameSays (order_at q) s (faulty fault)) e =
    subst (λ (o : Endianness). Refuses ⊥ (λ n. FrameSays o s (lacks n)) (λ fault. FrameSays o s (faulty fault)) e) c.order_in.ensures c.in-Err.ensures.tells
    in
    head_refused q s e c.in_default.not-IncompleteBuffer told

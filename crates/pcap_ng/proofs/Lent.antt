-- A block that a reader lends is the block in the bytes that it holds.
use Rattle.std.proofs.Common.{◌≡◌, ◌∙◌, ◌+◌, ◌-◌, ℕ, List, [], length, take, drop, refl, sym, ap, arith, length-append}
use Rattle.std.proofs.lemmas.List.{take_at}
use Rattle.pcap_core.specs.declared.common.Endianness.{Endianness}
use Rattle.pcap_core.specs.Answer.{number_in, whole}
use Rattle.pcap_ng.specs.Frames.{Framed, frame_format}
use Rattle.pcap_ng.specs.Lent.{header_of, framed_around, body_in}
use Rattle.pcap_ng.proofs.Frames.{number_long, head_long}
use Rattle.pcap_ng.proofs.StatedFrames.{head_drop}

-- The block with another body and another length after it.
framed_by : Framed → List ℕ → ℕ → Framed
framed_by b body n = record { type_ = b.type_; initial_len = b.initial_len; body = body; trailer_len = n; endianness = b.endianness }

same_block : (b : Framed) (body : List ℕ) (n : ℕ) → body ≡ b.body → n ≡ b.trailer_len → framed_by b body n ≡ b
unfolding framed_by
same_block b body n e f = rw (e, f) refl

-- The block in these bytes is that of its header and its body.
pub held_block : (e : Endianness) (b : Framed) (s : List ℕ) → frame_format.says e s (whole b []) → framed_around (header_of b) (body_in s) ≡ b
unfolding frame_format framed_by
held_block e b s text =
    let t = text.tail in
    let long : length s ≡ 8 + length text.after = head_long e text.number b.initial_len b.endianness s text.after text.head in
    let back : drop 8 s ≡ text.after = head_drop e text.number b.initial_len b.endianness s text.after text.head in
    let behind : length t.after_body ≡ 4 = number_long (number_in b.endianness) 4 b.trailer_len t.after_body [] t.trailer_is in
    let sum : length text.after ≡ length b.body + length t.after_body = ap length t.body_is ∙ length-append b.body t.after_body in
    let count : length b.body ≡ length s - 12 = omega (arith, long, behind, sum) in
    let body : body_in s ≡ b.body = ap (take (length s - 12)) (back ∙ t.body_is) ∙ take_at b.body t.after_body (length s - 12) count in
    same_block b (body_in s) b.initial_len body (sym text.same)

-- The lengths of the parts of a frame.
use Rattle.std.proofs.Common.{◌≡◌, ◌≤◌, ℕ, ◌+◌, List, length, ap, arith, length-append}
use Rattle.pcap_core.specs.declared.common.Endianness.{Endianness}
use Rattle.pcap_core.specs.Answer.{Number, number_in}
use Rattle.pcap_ng.specs.Frames.{FrameHeadText, FrameText, Framed}

pub number_long : (order : ℕ → List ℕ → ℕ) (w n : ℕ) (s rest : List ℕ) → Number order w n s rest → length s ≡ w + length rest
number_long order w n s rest t = omega (arith, ap length t.text, length-append t.bytes rest, t.length_is)

pub head_long : (e : Endianness) (number len : ℕ) (own : Endianness) (s after : List ℕ) → FrameHeadText e number own len s after → length s ≡ 8 + length after
head_long e number len own s after t = omega (arith, number_long (number_in e) 4 number s t.after_number t.number_is, number_long (number_in own) 4 len t.after_number after t.len_is)

-- A block has at least the 12 bytes of its head and its trailing length.
pub frame_long : (e : Endianness) (b : Framed) (s rest : List ℕ) → FrameText e b s rest → 12 + length rest ≤ length s
frame_long e b s rest t =
    omega (
      arith,
      head_long e t.number b.initial_len b.endianness s t.after t.head,
      ap length t.tail.body_is,
      length-append b.body t.tail.after_body,
      number_long (number_in b.endianness) 4 b.trailer_len t.tail.after_body rest t.tail.trailer_is,
    )

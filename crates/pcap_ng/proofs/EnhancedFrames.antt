-- Enhanced packets that are read in place.
use Rattle.std.proofs.Common.{◌≡◌, ◌≤◌, ◌<◌, ◌+◌, ℕ, List, [], ◌++◌, length, take, Some, inl, inr, refl, sym, ap, subst, ◌∙◌, rules, arith, length-append}
use Rattle.std.specs.Prelude.{◌%◌}
use Rattle.byteorder.specs.Endian.{big_number}
use Rattle.pcap_core.specs.declared.common.Endianness.{Endianness}
use Rattle.pcap_core.specs.Answer.{Order, Number, number_in, whole}
use Rattle.pcap_items.proofs.Formats.{text_same}
use Rattle.pcap_core.proofs.Numbers.{number_there}
use Rattle.pcap_core.proofs.Texts.{front_of, number_length, number_same, split_same}
use Rattle.pcap_blocks.specs.declared.block_type.BlockType.TheVariants as types
use Rattle.pcap_blocks.specs.BlockType.{block_type, type_number}
use Rattle.pcap_options.specs.EnhancedOption.{enhanced_packet}
use Rattle.pcap_blocks.specs.EnhancedPacket.{EnhancedText}
use Rattle.pcap_blocks.specs.InterfaceDescription.{Interface}
use Rattle.pcap_options.specs.Options.{OptionList, may_end_with_body}
use Rattle.pcap_blocks.specs.SectionHeader.{Section}
use Rattle.pcap_options.specs.Values.{Entry}
use Rattle.pcap_ng.specs.Blocks.{Item, block_format}
use Rattle.pcap_ng.specs.Enhanced.{EnhancedFrame, HasNoRoom, IsRefused, PacketText, PartsText, enhanced_frame, enhanced_with}
use Rattle.pcap_ng.specs.Frames.{Framed, FrameHeadText, FrameTail, FrameText, frame_format, own_order}
use Rattle.pcap_ng.specs.State.{State, order_at, within}
use Rattle.pcap_ng.specs.declared.pcapng.enhanced.EnhancedNumbers.{EnhancedNumbers}
use Rattle.pcap_ng.specs.declared.pcapng.enhanced.EnhancedParts.{EnhancedParts}
use Rattle.pcap_ng.proofs.Frames.{head_long}
use Rattle.pcap_ng.proofs.HeadedFrames.{frames_lawful}
use Rattle.pcap_ng.proofs.Stretched.{own_text, text_within}

-- A body that is too short is refused.
pub no_room_refused : (order : Order) (body : List ℕ) → HasNoRoom order body → IsRefused order body
no_room_refused order body (inl short) = (_, short)
no_room_refused order body (inr cut) = (_, cut)

other_order : (e : Endianness) (magic : ℕ) → own_order e 6 magic ≡ Some e
unfolding own_order
other_order e magic = refl

-- The type number of an enhanced packet is 6.
number_of_enhanced : (n : ℕ) → types.EnhancedPacket ≡ block_type n → n ≡ 6
number_of_enhanced n is =
    let back : type_number (block_type n) ≡ n = search rules in
    sym back ∙ ap type_number (sym is)

-- The block of an enhanced packet, from its numbers in this byte order.
pub enhanced_framed : (e : Endianness) (order : Order) → number_in e ≡ order → (number len again : ℕ) (s after_number after body behind rest : List ℕ)
    → Number order 4 number s after_number → Number order 4 len after_number after → Number order 4 again behind rest → after ≡ body ++ behind → number ≡ 6 → len ≡ length body + 12 → len % 4 ≡ 0 → again ≡ len
    → FrameText e (enhanced_frame e len body) s rest
enhanced_framed e order named number len again s after_number after body behind rest number_is len_is again_is split six size aligned same =
    let first : Number order 4 6 s after_number = subst (λ (n : ℕ). Number order 4 n s after_number) six number_is in
    let last : Number order 4 len behind rest = subst (λ (n : ℕ). Number order 4 n behind rest) same again_is in
    let third = number_there big_number 4 after (omega (arith, ap length split, length-append body behind, number_length order 4 len behind rest last)) in
    let head : FrameHeadText e 6 e len s after = record {
      after_number = after_number;
      more = third.1;
      magic = third.0;
      number_is = subst (λ (o : Order). Number o 4 6 s after_number) (sym named) first;
      len_is = subst (λ (o : Order). Number o 4 len after_number after) (sym named) len_is;
      magic_is = third.2;
      own_is = other_order e third.0;
    } in
    let tail : FrameTail e len body len after rest = record {
      after_body = behind;
      body_is = split;
      length_is = size;
      trailer_is = subst (λ (o : Order). Number o 4 len behind rest) (sym named) last;
    } in
    record { number = 6; after = after; head = head; type_is = refl; aligned = aligned; tail = tail; same = refl }

-- An enhanced packet's block has as many bytes as its length.
pub enhanced_long : (e : Endianness) (len : ℕ) (body s rest : List ℕ) → FrameText e (enhanced_frame e len body) s rest → length s ≡ len + length rest
enhanced_long e len body s rest text =
    let long = head_long e text.number len e s text.after text.head in
    let last = number_length (number_in e) 4 len text.tail.after_body rest text.tail.trailer_is in
    omega (arith, long, ap length text.tail.body_is, length-append body text.tail.after_body, text.tail.length_is, last)

-- An enhanced packet's block in which s is two numbers in this byte order, followed by `after`.
module _ (e : Endianness) (order : Order) (named : number_in e ≡ order) (number len : ℕ) (s after_number after : List ℕ) (number_is : Number order 4 number s after_number) (len_is : Number order 4 len after_number after)
    (body rest : List ℕ) (frame : EnhancedFrame e body s rest) where
  begins : (frame.1.number ≡ number) × (frame.0 ≡ len) × (frame.1.after ≡ after)
  begins =
      let head = frame.1.head in
      let first = number_same order 4 frame.1.number number s head.after_number after_number (subst (λ (o : Order). Number o 4 frame.1.number s head.after_number) named head.number_is) number_is in
      let there = subst (λ (o : Order). Number o 4 frame.0 head.after_number frame.1.after) named head.len_is in
      let second = number_same order 4 frame.0 len after_number frame.1.after after (subst (λ (t : List ℕ). Number order 4 frame.0 t frame.1.after) first.1 there) len_is in
      (first.0, second.0, second.1)

  -- The two numbers are those of its type and its length.
  pub is_enhanced : number ≡ 6
  is_enhanced = sym begins.0 ∙ number_of_enhanced frame.1.number frame.1.type_is

  pub is_aligned : len % 4 ≡ 0
  is_aligned = ap (λ (n : ℕ). n % 4) (sym begins.1) ∙ frame.1.aligned

  pub holds_all : (12 ≤ len) × (len ≤ length s)
  holds_all = (omega (arith, begins.1, frame.1.tail.length_is), omega (arith, begins.1, enhanced_long e frame.0 body s rest frame.1))

  -- Its length is repeated after its body.
  pub same_again : (again : ℕ) (front behind more : List ℕ) → after ≡ front ++ behind → len ≡ length front + 12 → Number order 4 again behind more → again ≡ len
  same_again again front behind more split size again_is =
      let tail = frame.1.tail in
      let parts = split_same body tail.after_body front behind (omega (arith, tail.length_is, begins.1, size)) (sym tail.body_is ∙ begins.2 ∙ split) in
      let there = subst (λ (o : Order). Number o 4 frame.0 tail.after_body rest) named tail.trailer_is in
      let same = number_same order 4 again frame.0 behind more rest again_is (subst (λ (t : List ℕ). Number order 4 frame.0 t rest) parts.1 there) in
      same.0 ∙ begins.1

-- Two enhanced packets' blocks at the front of the same bytes have the same body.
pub same_body : (e : Endianness) (s a b x y : List ℕ) → EnhancedFrame e a s x → EnhancedFrame e b s y → a ≡ b
unfolding frame_format
same_body e s a b x y first second =
    let same = text_same frame_format frames_lawful e (enhanced_frame e first.0 a) (enhanced_frame e second.0 b) s x y first.1 second.1 in
    ap (λ (f : Framed). f.body) same.0

-- A body whose options are read is the text of an enhanced packet.
pub parts_read : (order : Order) (parts : EnhancedParts) (body : List ℕ) → PartsText order parts body → (options : List Entry) (rest : List ℕ) → OptionList may_end_with_body order enhanced_packet options parts.options.now rest
    → EnhancedText order (enhanced_with parts options) body rest
parts_read order parts body text options rest list = record {
  after_interface = text.after_interface;
  interface_is = text.interface_is;
  packet_is = record {
    after_head = text.after_head;
    after_bytes = parts.options.now;
    head = record { after_time = text.head.after_time; after_captured = text.head.after_captured; time_is = text.head.time_is; captured_is = text.head.captured_is; original_is = text.head.original_is };
    captured = refl;
    padded = text.padded;
    options_are = list;
  };
}

-- A block at the front of other bytes is a block by itself.
pub packet_alone : (e : Endianness) (packet : EnhancedNumbers) (s rest : List ℕ) (n : ℕ) → PacketText e packet s rest → n + length rest ≡ length s → PacketText e packet (take n s) []
packet_alone e packet s rest n text size =
    let b = enhanced_frame e text.frame.0 text.body in
    let own = own_text e b s rest text.frame.1 in
    let same : take n s ≡ own.0 = front_of s own.0 rest n own.1 size in
    record { body = text.body; frame = (text.frame.0, subst (λ (t : List ℕ). FrameText e b t []) (sym same) own.2); tells = text.tells }

-- A block takes at least one byte.
pub packet_within : (e : Endianness) (packet : EnhancedNumbers) (s rest : List ℕ) → PacketText e packet s rest → length rest < length s
packet_within e packet s rest text = text_within e (enhanced_frame e text.frame.0 text.body) s rest text.frame.1

-- An enhanced packet as an item, which leaves what is in force unchanged.
abbrev pub packet_item : Endianness → ℕ → List ℕ → State → Item
packet_item e len body q = record { block = enhanced_frame e len body; after = q }

pub packet_says : (e : Endianness) (section : Section) (interfaces : List Interface) → e ≡ order_at (within section interfaces) → (len : ℕ) (body s rest : List ℕ) → FrameText e (enhanced_frame e len body) s rest
    → block_format.says (within section interfaces) s (whole (packet_item e len body (within section interfaces)) rest)
unfolding block_format
packet_says e section interfaces order len body s rest text =
    record { frame = subst (λ (o : Endianness). FrameText o (enhanced_frame e len body) s rest) order text; means = refl }

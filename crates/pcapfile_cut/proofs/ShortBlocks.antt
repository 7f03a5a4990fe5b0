-- Lemmas on blocks whose packets are shortened.
use Rattle.std.proofs.Common.{◌≡◌, ◌≤◌, ◌<◌, ◌+◌, ◌^◌, ℕ, List, ◌++◌, length, take, refl, sym, ap, ◌∙◌, subst, arith, append_assoc, length-append}
use Rattle.std.proofs.lemmas.List.{length-take-le}
use Rattle.pcap_core.specs.declared.common.Endianness.{Endianness}
use Rattle.pcap_core.specs.Answer.{Number, Order, number_in}
use Rattle.pcap_core.specs.Codec.{number_bytes}
use Rattle.pcap_core.specs.Padded.{Padded, up_to_4}
use Rattle.pcap_core.proofs.Codec.{codec, number_again}
use Rattle.pcap_core.proofs.Texts.{number_same, split_same}
use Rattle.pcap_options.specs.EnhancedOption.{enhanced_packet}
use Rattle.pcap_options.specs.Options.{OptionList, may_end_with_body}
use Rattle.pcap_blocks.specs.EnhancedPacket.{Enhanced, EnhancedText}
use Rattle.pcap_written.proofs.OptionsAgain.{padded_again}
use Rattle.pcap_written.specs.Text.{padded_bytes}
use Rattle.pcapfile_cut.specs.ShortBlocks.{Parted, PartedText, first_bytes, short_body}

-- A number whose bytes are at the front.
number_at : (order : Order) (w n : ℕ) (bytes rest : List ℕ) → length bytes ≡ w → order w bytes ≡ n → Number order w n (bytes ++ rest) rest
number_at order w n bytes rest long value = record { bytes = bytes; text = refl; length_is = long; value = value }

padded_same : (v w s a b : List ℕ) → length v ≡ length w → Padded v s a → Padded w s b → (v ≡ w) × (a ≡ b)
padded_same v w s a b long p q =
    let aligned : length v + length p.padding ≡ length w + length q.padding = p.aligned ∙ ap up_to_4 long ∙ sym q.aligned in
    let first = split_same (v ++ p.padding) a (w ++ q.padding) b (omega (arith, length-append v p.padding, length-append w q.padding, aligned)) (sym p.text ∙ q.text) in
    let second = split_same v p.padding w q.padding long first.0 in
    (second.0, first.1)

-- An enhanced packet that is shortened is read again, with the first of its bytes.
pub short_read : (e : Endianness) (n : ℕ) (parts : Parted) (body rest : List ℕ) (enhanced : Enhanced) → PartedText (number_in e) parts body → EnhancedText (number_in e) enhanced body rest
    → n ≤ length parts.bytes → n < 2 ^ 32 → EnhancedText (number_in e) (first_bytes n enhanced) (short_body (number_bytes e) n parts) rest
short_read e n parts body rest enhanced p x fits small =
    let order = number_in e in
    let t = x.packet_is in
    let time = t.head.time_is in
    let ib = x.interface_is.bytes in
    let hb = time.high_is.bytes in
    let lb = time.low_is.bytes in
    let at = t.head.after_time in
    let grouped : ib ++ (hb ++ (lb ++ at)) ≡ (ib ++ (hb ++ lb)) ++ at = simp append_assoc in
    let whole : body ≡ (ib ++ (hb ++ lb)) ++ at =
    x.interface_is.text ∙ ap (λ (s : List ℕ). ib ++ s) (time.high_is.text ∙ ap (λ (s : List ℕ). hb ++ s) time.low_is.text) ∙ grouped in
    let long : length parts.front ≡ length (ib ++ (hb ++ lb)) =
    omega (arith, p.front_length, length-append ib (hb ++ lb), length-append hb lb, x.interface_is.length_is, time.high_is.length_is, time.low_is.length_is) in
    let front = split_same parts.front p.after_front (ib ++ (hb ++ lb)) at long (sym p.front_is ∙ whole) in
    let captured = number_same order 4 (length parts.bytes) enhanced.packet.captured_len at p.after_captured t.head.after_captured
    (subst (λ (s : List ℕ). Number order 4 (length parts.bytes) s p.after_captured) front.1 p.captured_is) t.head.captured_is in
    let ob = t.head.original_is.bytes in
    let original = split_same parts.original p.after_original ob t.after_head (p.original_length ∙ sym t.head.original_is.length_is) (sym p.original_is ∙ captured.1 ∙ t.head.original_is.text) in
    let bytes = padded_same parts.bytes enhanced.packet.bytes t.after_head parts.options t.after_bytes (captured.0 ∙ sym t.captured)
    (subst (λ (s : List ℕ). Padded parts.bytes s parts.options) original.1 p.padded) t.padded in
    let tail = padded_bytes (take n parts.bytes) ++ parts.options in
    let after_time = number_bytes e 4 n ++ (parts.original ++ tail) in
    let regrouped : (ib ++ (hb ++ lb)) ++ after_time ≡ ib ++ (hb ++ (lb ++ after_time)) = simp append_assoc in
    record {
      after_interface = hb ++ (lb ++ after_time);
      interface_is = record { bytes = ib; text = ap (λ (s : List ℕ). s ++ after_time) front.0 ∙ regrouped; length_is = x.interface_is.length_is; value = x.interface_is.value };
      packet_is = record {
        after_head = tail;
        after_bytes = parts.options;
        head = record {
          after_time = after_time;
          after_captured = parts.original ++ tail;
          time_is = record {
            high = time.high;
            low = time.low;
            after_high = lb ++ after_time;
            high_is = number_at order 4 time.high hb (lb ++ after_time) time.high_is.length_is time.high_is.value;
            low_is = number_at order 4 time.low lb after_time time.low_is.length_is time.low_is.value;
            both = time.both;
          };
          captured_is = number_again order (number_bytes e) (codec e) 4 n (parts.original ++ tail) small;
          original_is = number_at order 4 enhanced.packet.original_len parts.original tail p.original_length (subst (λ (s : List ℕ). order 4 s ≡ enhanced.packet.original_len) (sym original.0) t.head.original_is.value);
        };
        captured = length-take-le n enhanced.packet.bytes (subst (λ (s : List ℕ). n ≤ length s) bytes.0 fits);
        padded = subst (λ (s : List ℕ). Padded (take n s) tail parts.options) bytes.0 (padded_again (take n parts.bytes) parts.options);
        options_are = subst (λ (s : List ℕ). OptionList may_end_with_body order enhanced_packet enhanced.packet.options s rest) (sym bytes.1) t.options_are;
      };
    }

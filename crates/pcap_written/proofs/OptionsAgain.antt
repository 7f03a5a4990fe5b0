-- Written options are read again.
use Rattle.std.proofs.Common.{◌≡◌, ℕ, ◌<◌, ◌≤◌, ◌+◌, ◌-◌, ◌^◌, List, [], ◌∷◌, ◌++◌, length, refl, sym, ap, subst, ◌∙◌, append_assoc, append-nil, arith}
use Rattle.std.specs.List.{flat_map}
use Rattle.std.proofs.lemmas.List.{length-take-le}
use Rattle.std.proofs.lemmas.List.Elements.{All-head, All-tail}
use Rattle.std.proofs.lemmas.List.Concat.{flat_map-cons}
use Rattle.pcap_core.specs.Answer.{Order, number_in}
use Rattle.pcap_core.specs.Codec.{Encoder, IsCodec, number_bytes}
use Rattle.pcap_core.specs.Padded.{up_to_4, Padded, Chain}
use Rattle.pcap_core.specs.declared.common.Endianness.{Endianness}
use Rattle.pcap_core.proofs.Codec.{codec, number_again}
use Rattle.pcap_options.specs.Values.{Entry, Kind}
use Rattle.pcap_options.specs.Options.{may_end_with_body, wants_end, CodeLengthText, OptionText, EndMark, OptionList, marked, with_body}
use Rattle.pcap_options.proofs.OneList.{list_kept}
use Rattle.pcap_written.specs.Text.{padding, padded_bytes, option_value, option_text, end_mark, list_text}
use Rattle.pcap_written.specs.Fits.{IsFitOption, AreFit}

pub three : (a b d rest : List ℕ) → (a ++ (b ++ d)) ++ rest ≡ a ++ (b ++ (d ++ rest))
three a b d rest = simp append_assoc

pub padding_long : (n : ℕ) → n + length (padding n) ≡ up_to_4 n
padding_long n =
    let few : up_to_4 n - n ≤ 3 = omega arith in
    let long : length (padding n) ≡ up_to_4 n - n = length-take-le (up_to_4 n - n) (0 ∷ 0 ∷ 0 ∷ []) few in
    omega (arith, long)

pub padded_again : (v rest : List ℕ) → Padded v (padded_bytes v ++ rest) rest
padded_again v rest = record { padding = padding (length v); text = refl; aligned = padding_long (length v) }

module _ (order : Order) (write : Encoder) (c : IsCodec order write) where
  pub coded_again : (code len : ℕ) (rest : List ℕ) → code < 2 ^ 16 → len < 2 ^ 16 → CodeLengthText order code len (write 2 code ++ (write 2 len ++ rest)) rest
  coded_again code len rest small short =
      record {
        after_code = write 2 len ++ rest;
        code_is = number_again order write c 2 code (write 2 len ++ rest) small;
        length_is = number_again order write c 2 len rest short;
      }

  pub option_again : (kind : Kind) (o : Entry) (rest : List ℕ) → IsFitOption order write kind o
      → OptionText order kind o (option_text write kind o ++ rest) rest
  option_again kind o rest fit =
      let v = option_value write kind o in
      let text : OptionText order kind o (write 2 o.code ++ (write 2 (length v) ++ (padded_bytes v ++ rest))) rest = record {
        v = v;
        after_head = padded_bytes v ++ rest;
        head = coded_again o.code (length v) (padded_bytes v ++ rest) fit.code fit.short;
        no_mark = fit.no_mark;
        padded = padded_again v rest;
        value_is = fit.kept;
      } in
      subst (λ (s : List ℕ). OptionText order kind o s rest) (sym (three (write 2 o.code) (write 2 (length v)) (padded_bytes v) rest)) text

  options_again : (kind : Kind) (os : List Entry) (rest : List ℕ) → AreFit order write kind os
      → Chain (OptionText order kind) os (flat_map (option_text write kind) os ++ rest) rest
  options_again kind [] rest fit = refl
  options_again kind (o ∷ os) rest fit =
      let f = option_text write kind in
      let more = flat_map f os ++ rest in
      let split : flat_map f (o ∷ os) ++ rest ≡ f o ++ more = ap (λ (s : List ℕ). s ++ rest) (flat_map-cons f o os) ∙ append_assoc (f o) (flat_map f os) rest in
      let one = option_again kind o more (All-head (IsFitOption order write kind) o os fit) in
      (more, subst (λ (s : List ℕ). OptionText order kind o s more) (sym split) one, options_again kind os rest (All-tail (IsFitOption order write kind) o os fit))

  mark_again : EndMark order (end_mark write) []
  mark_again = record { ignored = 0; head = subst (λ (s : List ℕ). CodeLengthText order 0 0 (write 2 0 ++ s) []) (append-nil (write 2 0)) (coded_again 0 0 [] (omega arith) (omega arith)) }

  -- A list ends with its mark if it has an option.
  pub list_marked : (kind : Kind) (os : List Entry) → AreFit order write kind os → OptionList wants_end order kind os (list_text write kind os) []
  list_marked kind [] fit = with_body refl refl refl
  list_marked kind (o ∷ os) fit = marked (end_mark write) (options_again kind (o ∷ os) (end_mark write) fit) mark_again

  pub list_again : (kind : Kind) (os : List Entry) → AreFit order write kind os → OptionList may_end_with_body order kind os (list_text write kind os) []
  list_again kind os fit = list_kept order kind os (list_text write kind os) [] (list_marked kind os fit)

-- The same for the byte order of this name.
pub option_read : (e : Endianness) (kind : Kind) (o : Entry) (rest : List ℕ) → IsFitOption (number_in e) (number_bytes e) kind o
    → OptionText (number_in e) kind o (option_text (number_bytes e) kind o ++ rest) rest
option_read e = option_again (number_in e) (number_bytes e) (codec e)

pub options_read : (e : Endianness) (kind : Kind) (os : List Entry) → AreFit (number_in e) (number_bytes e) kind os
    → OptionList may_end_with_body (number_in e) kind os (list_text (number_bytes e) kind os) []
options_read e = list_again (number_in e) (number_bytes e) (codec e)

pub options_marked : (e : Endianness) (kind : Kind) (os : List Entry) → AreFit (number_in e) (number_bytes e) kind os
    → OptionList wants_end (number_in e) kind os (list_text (number_bytes e) kind os) []
options_marked e = list_marked (number_in e) (number_bytes e) (codec e)

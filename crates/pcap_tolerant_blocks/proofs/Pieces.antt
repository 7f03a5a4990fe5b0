-- Sound options, whose values break no rule, with their unchanged bytes.
use Rattle.std.proofs.Common.{◌≡◌, ◌<◌, ◌-◌, ℕ, List, [], ◌∷◌, ◌++◌, length, take, Bool, true, false, Option, refl, sym, ap, subst, ◌∙◌, arith, append_assoc, append-nil, length-append}
use Rattle.std.specs.Prelude.{filter}
use Rattle.std.specs.List.{flat_map}
use Rattle.std.proofs.Math.Seq.{take-append_seam}
use Rattle.std.proofs.lemmas.List.Concat.{flat_map-append}
use Rattle.std.proofs.lemmas.List.Elements.{All-push, filter-append}
use Rattle.std.proofs.lemmas.List.{length-take}
use Rattle.pcap_core.specs.Answer.{Order, Number, Verdict, whole}
use Rattle.pcap_core.specs.Faults.{Fault}
use Rattle.pcap_core.specs.Padded.{Padded, Chain}
use Rattle.pcap_core.proofs.OnePadded.{padded_length}
use Rattle.pcap_options.specs.Values.{Entry, Kind}
use Rattle.pcap_options.proofs.OneList.{head_length}
use Rattle.pcap_options.specs.Options.{may_end_with_body, CodeLengthText}
use Rattle.pcap_raw_options.specs.UpTo.{StopsAt, no_kind}
use Rattle.pcap_tolerant_blocks.specs.Flaws.{Flawed}
use Rattle.pcap_tolerant_blocks.specs.OptionsAsIs.{Judged, JudgedText, OptionsAsIsSay}
use Rattle.pcap_tolerant_blocks.specs.SoundOptions.{Piece, IsPiece, PiecesSoFar, SoundOptions, PutsFirst, PutsSome, are_none, is_sound, text_if, text_in}
use Rattle.pcap_tolerant_blocks.proofs.OneAsIs.{list_one, stops_any}

three : (a b d rest : List ℕ) → (a ++ (b ++ d)) ++ rest ≡ a ++ (b ++ (d ++ rest))
three a b d rest = simp append_assoc

module _ (order : Order) (kind : Kind) where
  number_behind : (w n : ℕ) (s rest other : List ℕ) (number : Number order w n s rest) → Number order w n (number.bytes ++ other) other
  number_behind w n s rest other number = record { bytes = number.bytes; text = refl; length_is = number.length_is; value = number.value }

  -- The bytes of an option are that option, whatever follows them.
  pub piece_there : (option : Judged) (s after : List ℕ) → JudgedText order kind option s after → (piece : Piece) × (piece.option ≡ option) × IsPiece order kind piece × (s ≡ piece.text ++ after)
  piece_there option s after t =
      let code = t.head.code_is in
      let len = t.head.length_is in
      let pad = t.v ++ t.padded.padding in
      let text = code.bytes ++ (len.bytes ++ pad) in
      let again : (rest : List ℕ) → JudgedText order kind option (text ++ rest) rest = λ rest.
      let head : CodeLengthText order t.code (length t.v) (code.bytes ++ (len.bytes ++ (pad ++ rest))) (pad ++ rest) = record {
        after_code = len.bytes ++ (pad ++ rest);
        code_is = number_behind 2 t.code s t.head.after_code (len.bytes ++ (pad ++ rest)) code;
        length_is = number_behind 2 (length t.v) t.head.after_code t.after_head (pad ++ rest) len;
      } in
      let padded : Padded t.v (pad ++ rest) rest = record { padding = t.padded.padding; text = refl; aligned = t.padded.aligned } in
      let there : JudgedText order kind option (code.bytes ++ (len.bytes ++ (pad ++ rest))) rest = record { code = t.code; v = t.v; after_head = pad ++ rest; head = head; no_mark = t.no_mark; padded = padded; is = t.is } in
      subst (λ (k : List ℕ). JudgedText order kind option k rest) (sym (three code.bytes len.bytes pad rest)) there in
      let whole : s ≡ text ++ after =
      code.text ∙ ap (λ (k : List ℕ). code.bytes ++ k) (len.text ∙ ap (λ (k : List ℕ). len.bytes ++ k) t.padded.text) ∙ sym (three code.bytes len.bytes pad after) in
      (record { option = option; text = text }, refl, again, whole)

  one_kept : (piece : Piece) (sound : Bool) → are_none piece.option.flaws ≡ sound → flat_map text_in (filter is_sound (piece ∷ [])) ≡ text_if sound piece.text
  one_kept piece true e = rw e (append-nil piece.text)
  one_kept piece false e = rw e refl

  pieces_more : (s left after kept : List ℕ) (piece : Piece) → PiecesSoFar order kind s left kept → IsPiece order kind piece → left ≡ piece.text ++ after
      → PiecesSoFar order kind s after (kept ++ text_if (are_none piece.option.flaws) piece.text)
  pieces_more s left after kept piece so_far is text =
      let ps = so_far.pieces in
      let one : flat_map text_in (piece ∷ []) ≡ piece.text = append-nil piece.text in
      let all : flat_map text_in (ps ++ piece ∷ []) ≡ flat_map text_in ps ++ piece.text = flat_map-append text_in ps (piece ∷ []) ∙ ap (λ (k : List ℕ). flat_map text_in ps ++ k) one in
      let sound : flat_map text_in (filter is_sound (ps ++ piece ∷ [])) ≡ flat_map text_in (filter is_sound ps) ++ flat_map text_in (filter is_sound (piece ∷ [])) =
      ap (flat_map text_in) (filter-append is_sound ps (piece ∷ [])) ∙ flat_map-append text_in (filter is_sound ps) (filter is_sound (piece ∷ [])) in
      record {
        pieces = ps ++ piece ∷ [];
        are = All-push (IsPiece order kind) ps piece so_far.are is;
        text = so_far.text ∙ ap (λ (k : List ℕ). flat_map text_in ps ++ k) text ∙ sym (append_assoc (flat_map text_in ps) piece.text after) ∙ ap (λ (k : List ℕ). k ++ after) (sym all);
        kept_are = ap (λ (k : List ℕ). k ++ text_if (are_none piece.option.flaws) piece.text) so_far.kept_are
            ∙ ap (λ (k : List ℕ). flat_map text_in (filter is_sound ps) ++ k) (sym (one_kept piece (are_none piece.option.flaws) refl)) ∙ sym sound;
      }

  front_of : (n : ℕ) (left text after : List ℕ) → n ≡ length text → left ≡ text ++ after → take n left ≡ text
  front_of n left text after count is = ap (λ (k : ℕ). take k left) count ∙ ap (take (length text)) is ∙ take-append_seam text after

  -- One more option of what is left is read. Its bytes are appended if it has no flaw.
  pub option_more : (s left after kept : List ℕ) (option : Judged) → PiecesSoFar order kind s left kept → JudgedText order kind option left after
      → PiecesSoFar order kind s after (kept ++ text_if (are_none option.flaws) (take (length left - length after) left))
  option_more s left after kept option so_far is =
      let t = piece_there option left after is in
      let piece = t.0 in
      let count : length left - length after ≡ length piece.text = omega (arith, ap length t.3, length-append piece.text after) in
      let front = front_of (length left - length after) left piece.text after count t.3 in
      let flaws : are_none piece.option.flaws ≡ are_none option.flaws = ap (λ (o : Judged). are_none o.flaws) t.1 in
      let more = pieces_more s left after kept piece so_far t.2 t.3 in
      let by_text = subst (λ (k : List ℕ). PiecesSoFar order kind s after (kept ++ text_if (are_none piece.option.flaws) k)) (sym front) more in
      subst (λ (b : Bool). PiecesSoFar order kind s after (kept ++ text_if b (take (length left - length after) left))) flaws by_text

  pub pieces_end : (s left rest kept : List ℕ) (cut : Option Fault) → PiecesSoFar order kind s left kept
      → StopsAt may_end_with_body order no_kind [] cut left rest → SoundOptions order kind s kept
  pieces_end s left rest kept cut so_far stops = record { pieces = so_far.pieces; stop = left; cut = cut; rest = rest; are = so_far.are; text = so_far.text; stops = stops; kept_are = so_far.kept_are }

  -- The options of what is left are added to those so far.
  pieces_on : (each : List Judged) (s left stop kept : List ℕ) → PiecesSoFar order kind s left kept → Chain (JudgedText order kind) each left stop
      → (more : List ℕ) × PiecesSoFar order kind s stop (kept ++ more)
  pieces_on [] s left stop kept so_far are = ([], subst (λ (l : List ℕ). PiecesSoFar order kind s l (kept ++ [])) are (subst (PiecesSoFar order kind s left) (sym (append-nil kept)) so_far))
  pieces_on (option ∷ each) s left stop kept so_far are =
      let put = text_if (are_none option.flaws) (take (length left - length are.0) left) in
      let on = pieces_on each s are.0 stop (kept ++ put) (option_more s left are.0 kept option so_far are.1) are.2 in
      (put ++ on.0, subst (PiecesSoFar order kind s stop) (append_assoc kept put on.0) on.1)

  pub pieces_all : (s left kept : List ℕ) → PiecesSoFar order kind s left kept → (v : Verdict (Flawed (List Entry))) → OptionsAsIsSay order kind left v
      → (more : List ℕ) × SoundOptions order kind s (kept ++ more)
  pieces_all s left kept so_far (whole x rest) h =
      let on = pieces_on h.each s left h.stop kept so_far h.are in
      (on.0, pieces_end s h.stop rest (kept ++ on.0) h.cut on.1 (stops_any order kind x.value [] h.cut h.stop rest h.stops))
  pieces_all s left kept so_far _ h = absurd h

  -- An option without a flaw is appended.
  pub puts_some : (s left after kept : List ℕ) (option : Judged) → PiecesSoFar order kind s left kept → JudgedText order kind option left after
      → option.flaws ≡ [] → PutsSome order kind s
  puts_some s left after kept option so_far text none =
      let put = take (length left - length after) left in
      let sound : are_none option.flaws ≡ true = ap are_none none in
      let next = subst (λ (b : Bool). PiecesSoFar order kind s after (kept ++ text_if b put)) sound (option_more s left after kept option so_far text) in
      let list = list_one order kind after in
      let all = pieces_all s after (kept ++ put) next list.value list.holds in
      let less : length after < length left = omega (arith, head_length order text.code (length text.v) left text.after_head text.head, padded_length text.v text.after_head after text.padded) in
      record { kept = (kept ++ put) ++ all.0; are_put = all.1; some = λ e. omega (arith, less, ap length e, length-append (kept ++ put) all.0, length-append kept put, length-take (length left - length after) left) }

  -- If nothing more can be appended, the options so far are.
  pub puts_first : (s left kept before now after : List ℕ) → PiecesSoFar order kind s left kept → now ≡ before ++ kept → after ≡ now
      → PutsFirst order kind s before after
  puts_first s left kept before now after so_far put stays = record { left = left; kept = kept; are_put = so_far; behind = stays ∙ put }

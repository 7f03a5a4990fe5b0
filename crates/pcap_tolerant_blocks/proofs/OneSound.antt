-- Any bytes have exactly one list of the bytes of their sound options.
use Rattle.std.proofs.Common.{◌≡◌, ℕ, List, [], ◌∷◌, ◌++◌, Bool, true, false, Option, refl, sym, ap, subst, ◌∙◌, append_assoc}
use Rattle.std.specs.Prelude.{All, filter}
use Rattle.std.specs.List.{flat_map}
use Rattle.std.proofs.lemmas.List.{append_cancel_right}
use Rattle.std.proofs.lemmas.List.Elements.{All-head, All-nil, All-tail}
use Rattle.pcap_core.specs.Answer.{Order}
use Rattle.pcap_core.specs.Faults.{Fault}
use Rattle.pcap_core.specs.Laws.{ExactlyOne}
use Rattle.pcap_options.specs.Values.{Kind}
use Rattle.pcap_options.specs.Options.{may_end_with_body}
use Rattle.pcap_options.proofs.OneList.{item_same}
use Rattle.pcap_raw_options.specs.UpTo.{StopsAt, no_kind}
use Rattle.pcap_raw_options.proofs.OneUpTo.{at_no_item}
use Rattle.pcap_tolerant_blocks.specs.OptionsAsIs.{Judged, JudgedText}
use Rattle.pcap_tolerant_blocks.specs.SoundOptions.{Piece, IsPiece, PiecesSoFar, SoundOptions, is_sound, text_in}
use Rattle.pcap_tolerant_blocks.proofs.OneAsIs.{judge_raw, list_one, raw_text}
use Rattle.pcap_tolerant_blocks.proofs.Pieces.{pieces_all}

module _ (order : Order) (kind : Kind) where
  -- The front of any bytes is at most one option.
  option_same : (option other : Judged) (s a b : List ℕ) → JudgedText order kind option s a → JudgedText order kind other s b → (option ≡ other) × (a ≡ b)
  option_same option other s a b x y =
      let first = raw_text order kind option s a x in
      let second = raw_text order kind other s b y in
      let same = item_same order no_kind first.0 second.0 s a b first.1 second.1 in
      (first.2 ∙ ap (judge_raw order kind) same.0 ∙ sym second.2, same.1)

  -- The bytes begin with no option.
  NoOption : List ℕ → Type 0
  NoOption s = (option : Judged) (after : List ℕ) → JudgedText order kind option s after → ⊥

  stops_no_option : (cut : Option Fault) (s rest : List ℕ) → StopsAt may_end_with_body order no_kind [] cut s rest → NoOption s
  unfolding NoOption
  stops_no_option cut s rest stops option after text =
      let raw = raw_text order kind option s after text in
      at_no_item may_end_with_body order no_kind [] s rest cut raw.0 after stops raw.1

  AllPieces : List Piece → Type 0
  AllPieces = All (IsPiece order kind)

  -- The first of the options is at the front.
  first_there : (p : Piece) (ps : List Piece) (s a : List ℕ) → AllPieces (p ∷ ps) → s ≡ flat_map text_in (p ∷ ps) ++ a
      → (s ≡ p.text ++ (flat_map text_in ps ++ a)) × JudgedText order kind p.option s (flat_map text_in ps ++ a)
  unfolding AllPieces
  first_there p ps s a are e =
      let behind = flat_map text_in ps ++ a in
      let whole : s ≡ p.text ++ behind = e ∙ append_assoc p.text (flat_map text_in ps) a in
      (whole, subst (λ (t : List ℕ). JudgedText order kind p.option t behind) (sym whole) (All-head (IsPiece order kind) p ps are behind))

  both_kept : (p q : Piece) (ps qs : List Piece) (sound : Bool) → is_sound p ≡ sound → is_sound q ≡ sound → p.text ≡ q.text
      → flat_map text_in (filter is_sound ps) ≡ flat_map text_in (filter is_sound qs)
      → flat_map text_in (filter is_sound (p ∷ ps)) ≡ flat_map text_in (filter is_sound (q ∷ qs))
  both_kept p q ps qs true e f text more = rw (e, f, text, more) refl
  both_kept p q ps qs false e f text more = rw (e, f) more

  pieces_same : (ps qs : List Piece) (s a b : List ℕ) → AllPieces ps → AllPieces qs → s ≡ flat_map text_in ps ++ a → s ≡ flat_map text_in qs ++ b
      → NoOption a → NoOption b
      → flat_map text_in (filter is_sound ps) ≡ flat_map text_in (filter is_sound qs)
  unfolding NoOption AllPieces
  pieces_same [] [] s a b ps_are qs_are e f none nothing = refl
  pieces_same [] (q ∷ qs) s a b ps_are qs_are e f none nothing =
      let behind = flat_map text_in qs ++ b in
      absurd (none q.option behind (subst (λ (t : List ℕ). JudgedText order kind q.option t behind) e (first_there q qs s b qs_are f).1))
  pieces_same (p ∷ ps) [] s a b ps_are qs_are e f none nothing =
      let behind = flat_map text_in ps ++ a in
      absurd (nothing p.option behind (subst (λ (t : List ℕ). JudgedText order kind p.option t behind) f (first_there p ps s a ps_are e).1))
  pieces_same (p ∷ ps) (q ∷ qs) s a b ps_are qs_are e f none nothing =
      let x = first_there p ps s a ps_are e in
      let y = first_there q qs s b qs_are f in
      let behind = flat_map text_in ps ++ a in
      let same = option_same p.option q.option s behind (flat_map text_in qs ++ b) x.1 y.1 in
      let text = append_cancel_right p.text q.text behind (sym x.0 ∙ y.0 ∙ ap (λ (t : List ℕ). q.text ++ t) (sym same.1)) in
      let more = pieces_same ps qs behind a b (All-tail (IsPiece order kind) p ps ps_are) (All-tail (IsPiece order kind) q qs qs_are) refl same.1 none nothing in
      both_kept p q ps qs (is_sound q) (ap (λ (o : Judged). is_sound (record { option = o; text = [] })) same.0) refl text more

  sound_same : (s kept others : List ℕ) → SoundOptions order kind s kept → SoundOptions order kind s others → kept ≡ others
  unfolding AllPieces
  sound_same s kept others x y =
      let none = stops_no_option x.cut x.stop x.rest x.stops in
      let nothing = stops_no_option y.cut y.stop y.rest y.stops in
      x.kept_are ∙ pieces_same x.pieces y.pieces s x.stop y.stop x.are y.are x.text y.text none nothing ∙ sym y.kept_are

  pub sound_one : (s : List ℕ) → ExactlyOne (SoundOptions order kind s)
  sound_one s =
      let list = list_one order kind s in
      let none_yet : PiecesSoFar order kind s s [] = record { pieces = []; are = All-nil (IsPiece order kind); text = refl; kept_are = refl } in
      let there = pieces_all order kind s s [] none_yet list.value list.holds in
      record { value = there.0; holds = there.1; only = λ other x. sound_same s other there.0 x there.1 }

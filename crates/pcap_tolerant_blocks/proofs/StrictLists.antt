-- The answers of strict reading for options that are also read leniently.
use Rattle.std.proofs.Common.{◌≡◌, ◌≢◌, ℕ, List, [], ◌∷◌, ◌++◌, length, map, Option, Some, None, Result, Ok, Err, refl, sym, ap, subst, ◌∙◌, arith}
use Rattle.pcap_core.specs.Answer.{Order, Verdict, whole, faulty}
use Rattle.pcap_core.specs.Faults.{Fault}
use Rattle.pcap_core.specs.Padded.{Chain}
use Rattle.pcap_options.specs.Values.{Entry, Value, Kind, shape_at, value_of}
use Rattle.pcap_options.specs.Options.{may_end_with_body, OptionText, OptionFault, short, cut, wrong, OptionList, marked, with_body, ListFault, ListSays}
use Rattle.pcap_options.proofs.OneList.{list_one, list_from_stop, head_length}
use Rattle.pcap_raw_options.specs.UpTo.{StopsAt, no_kind}
use Rattle.pcap_tolerant_blocks.specs.Flaws.{Said, StrictIs}
use Rattle.pcap_tolerant_blocks.specs.OptionsAsIs.{Judged, judged, JudgedText, entry_in, cut_by, flaws_in, OptionsAsIs}

module _ (order : Order) (kind : Kind) where
  -- An answer of strict reading that is the one of the law.
  There : List Entry → List Said → List ℕ → List ℕ → Type 0
  There options flaws s rest = (v : Verdict (List Entry)) × ListSays may_end_with_body order kind s v × StrictIs flaws options rest v

  -- A list from which no next option can be read is cut in the same way for every kind.
  cut_of_kind : (s : List ℕ) (f : Fault) → OptionFault order no_kind s f → OptionFault order kind s f
  cut_of_kind s f (short lt) = short lt
  cut_of_kind s f (cut code len after head mark lack) = cut code len after head mark lack
  cut_of_kind s f (wrong _ code v after rest head mark padded is) = absurd cc

  list_more : (o : Entry) (options : List Entry) (s after rest : List ℕ) → OptionText order kind o s after → OptionList may_end_with_body order kind options after rest → OptionList may_end_with_body order kind (o ∷ options) s rest
  list_more o options s after rest text (marked end are is) = marked end (after, text, are) is
  list_more o options s after rest text (with_body are over none) = with_body (after, text, are) over none

  fault_more : (o : Entry) (s after : List ℕ) (f : Fault) → OptionText order kind o s after → ListFault may_end_with_body order kind after f → ListFault may_end_with_body order kind s f
  fault_more o s after f text x = record { good = o ∷ x.good; bad = x.bad; are_good = (after, text, x.are_good); goes_on = x.goes_on; fault_is = x.fault_is }

  good_more : (o : Entry) (options : List Entry) (flaws : List Said) (s after rest : List ℕ) → OptionText order kind o s after → There options flaws after rest → There (o ∷ options) flaws s rest
  unfolding There
  good_more o options [] s after rest text t =
      let list : OptionList may_end_with_body order kind options after rest = subst (λ (v : Verdict (List Entry)). ListSays may_end_with_body order kind after v) t.2 t.1 in
      (whole (o ∷ options) rest, list_more o options s after rest text list, refl)
  good_more o options (first ∷ others) s after rest text t =
      let fault : ListFault may_end_with_body order kind after first.fault = subst (λ (v : Verdict (List Entry)). ListSays may_end_with_body order kind after v) t.2 t.1 in
      (faulty first.fault, fault_more o s after first.fault text fault, refl)

  flawed : (option : Judged) (more : List Entry) (others : List Said) (s after rest : List ℕ) (text : JudgedText order kind option s after) (f : Fault) → value_of order (shape_at kind text.code) text.v ≡ Err f
      → There (option.entry ∷ more) (option.flaws ++ others) s rest
  unfolding There
  flawed option more others s after rest text f e =
      let some : s ≢ [] = λ none. omega (arith, head_length order text.code (length text.v) s text.after_head text.head, ap length none) in
      let fault : ListFault may_end_with_body order kind s f = record { good = []; bad = s; are_good = refl; goes_on = λ over. some; fault_is = wrong f text.code text.v text.after_head after text.head text.no_mark text.padded e } in
      let is : option ≡ judged text.code text.v (Err f) = text.is ∙ ap (judged text.code text.v) e in
      subst (λ (j : Judged). There (j.entry ∷ more) (j.flaws ++ others) s rest) (sym is) (faulty f, fault, refl)

  sound : (option : Judged) (more : List Entry) (others : List Said) (s after rest : List ℕ) (text : JudgedText order kind option s after) (value : Value) → value_of order (shape_at kind text.code) text.v ≡ Ok value
      → There more others after rest → There (option.entry ∷ more) (option.flaws ++ others) s rest
  sound option more others s after rest text value e t =
      let entry : Entry = record { code = text.code; value = value } in
      let good : OptionText order kind entry s after = record { v = text.v; after_head = text.after_head; head = text.head; no_mark = text.no_mark; padded = text.padded; value_is = e } in
      let is : option ≡ judged text.code text.v (Ok value) = text.is ∙ ap (judged text.code text.v) e in
      subst (λ (j : Judged). There (j.entry ∷ more) (j.flaws ++ others) s rest) (sym is) (good_more entry more others s after rest good t)

  one_more : (option : Judged) (more : List Entry) (others : List Said) (s after rest : List ℕ) (text : JudgedText order kind option s after) (r : Result Value Fault) → value_of order (shape_at kind text.code) text.v ≡ r
      → There more others after rest → There (option.entry ∷ more) (option.flaws ++ others) s rest
  one_more option more others s after rest text (Ok value) e t = sound option more others s after rest text value e t
  one_more option more others s after rest text (Err f) e t = flawed option more others s after rest text f e

  at_end : (all : List Entry) (last : Option Fault) (s stop rest : List ℕ) → s ≡ stop → StopsAt may_end_with_body order no_kind all last stop rest → There [] (cut_by last) s rest
  unfolding There
  at_end all None s stop rest are stops = (whole [] rest, list_from_stop may_end_with_body order kind [] s stop rest are stops, refl)
  at_end all (Some f) s stop rest are stops =
      let fault : ListFault may_end_with_body order kind s f = record { good = []; bad = stop; are_good = are; goes_on = stops.0; fault_is = cut_of_kind stop f stops.1 } in
      (faulty f, fault, refl)

  strict_there : (all : List Entry) (last : Option Fault) (each : List Judged) (s stop rest : List ℕ) → Chain (JudgedText order kind) each s stop → StopsAt may_end_with_body order no_kind all last stop rest
      → There (map entry_in each) (flaws_in each (cut_by last)) s rest
  strict_there all last [] s stop rest are stops = at_end all last s stop rest are stops
  strict_there all last (option ∷ each) s stop rest are stops =
      one_more option (map entry_in each) (flaws_in each (cut_by last)) s are.0 rest are.1 (value_of order (shape_at kind are.1.code) are.1.v) refl (strict_there all last each are.0 stop rest are.2 stops)

  pub list_there : (options : List Entry) (flaws : List Said) (s rest : List ℕ) → OptionsAsIs order kind options flaws s rest
      → (v : Verdict (List Entry)) × ListSays may_end_with_body order kind s v × StrictIs flaws options rest v
  unfolding There
  list_there options flaws s rest x = rw (x.options_are, x.flaws_are) (strict_there options x.cut x.each s x.stop rest x.are x.stops)

  pub list_strict : (options : List Entry) (flaws : List Said) (s rest : List ℕ) (v : Verdict (List Entry)) → OptionsAsIs order kind options flaws s rest → ListSays may_end_with_body order kind s v → StrictIs flaws options rest v
  list_strict options flaws s rest v x y =
      let t = list_there options flaws s rest x in
      let one = list_one may_end_with_body order kind s in
      subst (λ (w : Verdict (List Entry)). StrictIs flaws options rest w) (one.only t.0 t.1 ∙ sym (one.only v y)) t.2

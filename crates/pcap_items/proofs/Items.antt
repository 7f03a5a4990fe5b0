-- Lemmas about items that a parser lends, for any format.
use Rattle.std.proofs.Common.{◌≡◌, ◌<◌, ◌⊎◌, ℕ, List, [], ◌∷◌, ◌++◌, length, refl, sym, ap, subst, ◌∙◌, arith, length-append, inl, inr, Result, Ok, Err}
use Rattle.std.specs.Borrow.{Bor}
use Rattle.std.specs.Prelude.{OnErr}
use Rattle.std.proofs.lemmas.List.{map-append}
use Rattle.pcap_core.specs.declared.errors.PcapError.{PcapError}
use Rattle.pcap_core.specs.declared.errors.PcapError.TheVariants as errors
use Rattle.pcap_items.specs.declared.run.items.Ended.{Ended}
use Rattle.pcap_items.specs.declared.run.items.Ended.TheVariants.{Clean, Needs, Refused}
use Rattle.pcap_core.specs.Answer.{Verdict, whole, faulty, TellsWhere}
use Rattle.pcap_core.specs.Faults.{Fault, Invalid, Io, Utf8, Shows}
use Rattle.pcap_items.specs.Format.{Format, Front, IsLawful}
use Rattle.pcap_items.specs.Found.{found_of}
use Rattle.pcap_items.specs.Items.{EndsWith, FindsItem, GrowsIn, LeadsBy, LeadsTo, ShowsFault, ShowsSaid, rest_of}
use Rattle.pcap_items.specs.Run.{IsRest}
use Rattle.pcap_items.proofs.Formats.{fault_no_text, front_goes_on, has_front, lacks_no_text, nothing_no_text, shorter, state_push, texts_push}
use Rattle.pcap_core.proofs.Refusals.{shows_more}

-- ---- errors that show faults

pub shows_said : {V : Type 0} (IsSaid : Verdict V → Type 0) (e : PcapError) → Shows (λ fault. IsSaid (faulty fault)) e → ShowsSaid ShowsFault IsSaid e
shows_said IsSaid (errors.InvalidField text) shown = (Invalid shown.0, (shown.0, shown.1, refl), shown.2)
shows_said IsSaid (errors.IoError e) shown = (Io, refl, shown)
shows_said IsSaid (errors.Utf8Error e) shown = (Utf8, refl, shown)
shows_said IsSaid _ shown = absurd shown

pub said_shows : {V : Type 0} (IsSaid : Verdict V → Type 0) (e : PcapError) → ShowsSaid ShowsFault IsSaid e → Shows (λ fault. IsSaid (faulty fault)) e
said_shows IsSaid e said = shows_more {P = λ fault. fault ≡ said.0} {Q = λ fault. IsSaid (faulty fault)} (λ fault same. rw same said.2) e said.1

-- the end of a run is its rest
pub ended_rest : {V : Type 0} (IsSaid : List ℕ → Verdict V → Type 0) (left : List ℕ) (ended : Ended PcapError) → EndsWith ShowsFault IsSaid left ended → IsRest IsSaid left (rest_of ended)
ended_rest IsSaid left Clean ends = ends
ended_rest IsSaid left (Needs n) ends = ends
ended_rest IsSaid left (Refused e) ends = said_shows (IsSaid left) e ends

-- ---- items that are lent

-- what holds in any case holds if there is an error
pub on_err : {X E : Type 0} {P : Type 0} → P → (r : Result X E) → OnErr r P
on_err p (Ok x) = tt
on_err p (Err e) = p

module _ {S V W : Type 0} (f : Format S V) (part : V → W) where
  -- the result of a parser, as what it found
  pub tells_item : {X : Type 0} (view : X → W) (see : X → V) → ((x : X) → view x ≡ part (see x)) → (q next : S) → ((x : X) → next ≡ f.goes q (see x)) → (Grows : S → List ℕ → Type 0) (s : List ℕ)
      → (answer : Result (Bor (List ℕ) × X) PcapError) → OnErr answer (next ≡ q) → TellsWhere (Grows q s) (f.says q s) see answer → FindsItem f part view ShowsFault Grows q next s (found_of answer)
  tells_item view see seen q next goes Grows s (Ok x) stays tells = record { value = see x.1; text = tells; goes = goes x.1; part_is = seen x.1 }
  tells_item view see seen q next goes Grows s (Err (errors.IncompleteBuffer n)) stays tells = (stays, tells)
  tells_item view see seen q next goes Grows s (Err (errors.InvalidField text)) stays tells = (stays, shows_said (f.says q s) (errors.InvalidField text) tells)
  tells_item view see seen q next goes Grows s (Err (errors.IoError e)) stays tells = (stays, shows_said (f.says q s) (errors.IoError e) tells)
  tells_item view see seen q next goes Grows s (Err (errors.Utf8Error e)) stays tells = (stays, shows_said (f.says q s) (errors.Utf8Error e) tells)
  tells_item view see seen q next goes Grows s (Err (errors.FromUtf8Error e)) stays tells = absurd tells
  tells_item view see seen q next goes Grows s (Err (errors.OutOfMemory e)) stays tells = tells
  tells_item view see seen q next goes Grows s (Err errors.WriterFailed) stays tells = absurd tells

  pub leads_none : (q : S) (s : List ℕ) → LeadsTo f part q q [] s s
  leads_none q s = record { values = []; texts = refl; parts = refl; state_is = refl }

  pub leads_more : (q here next : S) (ws : List W) (w : W) (s left after : List ℕ) → LeadsTo f part q here ws s left → LeadsBy f part here next w left after → LeadsTo f part q next (ws ++ w ∷ []) s after
  leads_more q here next ws w s left after r x = record {
    values = r.values ++ x.value ∷ [];
    texts = texts_push f q r.values x.value s left after r.texts (subst (λ (p : S). f.says p left (whole x.value after)) (sym r.state_is) x.text);
    parts = map-append part r.values (x.value ∷ []) ∙ ap (λ (ps : List W). ps ++ part x.value ∷ []) r.parts ∙ ap (λ (p : W). ws ++ p ∷ []) (sym x.part_is);
    state_is = state_push f q r.values x.value ∙ ap (λ (p : S). f.goes p x.value) r.state_is ∙ sym x.goes;
  }

  pub leads_shorter : IsLawful f → (q next : S) (w : W) (s after : List ℕ) → LeadsBy f part q next w s after → length after < length s
  leads_shorter laws q next w s after x = shorter f laws q x.value s after x.text

  -- the list grows for an item
  pub grows_list : (Grows : S → List ℕ → Type 0) (q here next : S) (ws : List W) (w : W) (s left after : List ℕ) → LeadsTo f part q here ws s left → LeadsBy f part here next w left after → GrowsIn f Grows q s
  unfolding leads_more
  grows_list Grows q here next ws w s left after r x =
      let all = leads_more q here next ws w s left after r x in
      record { values = r.values ++ x.value ∷ []; left = after; texts = all.texts; why = inl (omega (arith, length-append r.values (x.value ∷ []))) }

  -- and the parser grows after items
  pub grows_parser : (Grows : S → List ℕ → Type 0) (q here : S) (ws : List W) (s left t more : List ℕ) → LeadsTo f part q here ws s left → left ≡ t ++ more → Grows here t
      → GrowsIn f Grows q s
  grows_parser Grows q here ws s left t more r front grows = record { values = r.values; left = left; texts = r.texts; why = inr (t, more, front, subst (λ (p : S). Grows p t) (sym r.state_is) grows) }

-- no item begins what is left after a run
pub ended_no_text : {E S V : Type 0} (f : Format S V) → IsLawful f → (ShowsIt : E → Fault → Type 0) (q : S) (left : List ℕ) (ended : Ended E) → EndsWith ShowsIt (f.says q) left ended
    → (v : V) (after : List ℕ) → f.says q left (whole v after) → ⊥
ended_no_text f laws ShowsIt q left Clean ends v after text = nothing_no_text f laws q v after (subst (λ (t : List ℕ). f.says q t (whole v after)) ends text)
ended_no_text f laws ShowsIt q left (Needs n) ends v after text = lacks_no_text f laws q n left ends.0 v after text
ended_no_text f laws ShowsIt q left (Refused e) ends v after text = fault_no_text f laws q ends.0 left ends.2 v after text

-- so the items are those of the front
pub leads_front : {E S V W : Type 0} (f : Format S V) → IsLawful f → (part : V → W) (ShowsIt : E → Fault → Type 0) (q next : S) (ws : List W) (s left : List ℕ) (ended : Ended E)
    → (r : LeadsTo f part q next ws s left) → EndsWith ShowsIt (f.says next) left ended → Front f q r.values s left
leads_front {S = S} {V = V} f laws part ShowsIt q next ws s left ended r ends = record {
  texts = r.texts;
  longest = subst (λ (p : S). (v : V) (after : List ℕ) → f.says p left (whole v after) → ⊥) (sym r.state_is) (ended_no_text f laws ShowsIt next left ended ends);
}

-- if a list grew, the front has an item
pub grows_some : {S V : Type 0} (f : Format S V) → IsLawful f → (q : S) (s : List ℕ) → GrowsIn f (λ p t. ⊥) q s → (first : V) × (others : List V) × (rest : List ℕ) × Front f q (first ∷ others) s rest
grows_some {V = V} f laws q s grows =
    let front = has_front f laws q s in
    let on = front_goes_on f laws q grows.values front.0 s grows.left front.1 grows.texts front.2 in
    some grows.values on.0 front.0 grows.left on.1 grows.why front.1 front.2
  where
    some : (vs more all : List V) (left : List ℕ) → all ≡ vs ++ more → (0 < length vs) ⊎ ((t : List ℕ) × (after : List ℕ) × (left ≡ t ++ after) × ⊥) → (rest : List ℕ) → Front f q all s rest → (first : V) × (others : List V) × (end : List ℕ) × Front f q (first ∷ others) s end
    some vs more all left e (inr x) rest front = absurd x.3
    some [] more all left e (inl less) rest front = absurd (omega (arith, less))
    some (v ∷ vs) more all left e (inl less) rest front = (v, vs ++ more, rest, subst (λ (l : List V). Front f q l s rest) e front)

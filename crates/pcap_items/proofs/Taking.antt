-- A run over a stream returns a beginning of the front, for any lawful format.
use Rattle.std.proofs.Common.{◌≡◌, ◌≤◌, ℕ, List, [], ◌∷◌, ◌++◌, length, map, All, Bool, false, refl, sym, ap, ◌∙◌, subst, Some, None, Ok, Err, ◌⊎◌, inl, inr}
use Rattle.std.specs.Prelude.{Option, Result, IfNone}
use Rattle.std.specs.Iterator.{Yields}
use Rattle.std.specs.Io.KnownBytes.{Consumes}
use Rattle.std.proofs.KnownBytes.{Consumes-nil, Consumes-trans, Keeps-refl}
use Rattle.std.proofs.lemmas.List.{length-map}
use Rattle.std.proofs.lemmas.List.Elements.{All-nil, All-cons}
use Rattle.std.specs.declared.alloc.AllocError.{AllocError}
use Rattle.pcap_core.specs.declared.errors.PcapError.{PcapError}
use Rattle.pcap_core.specs.Errors.{IsMemory}
use Rattle.pcap_core.specs.Answer.{whole, faulty}
use Rattle.pcap_items.specs.Early.{EarlyFault}
use Rattle.pcap_core.specs.Faults.{Fault}
use Rattle.pcap_items.specs.Format.{Format, Texts, state_after, Front, IsLawful}
use Rattle.pcap_items.specs.Items.{LeadsTo}
use Rattle.pcap_items.specs.Reading.{HasCause, read_failed, no_memory, torn, refused, IsFaultOf, NextGives, Takes}
use Rattle.pcap_items.specs.Takes.{GivesItems, Stops, StopsAt, EndsFront, TakesTexts, TakesItems, TakesParts, ReadsFront}
use Rattle.pcap_items.proofs.Formats.{cons_same, lacks_no_text, fault_no_text, nothing_no_text, has_front, front_goes_on, texts_more, texts_push, texts_all, nothing_more}
use Rattle.pcap_items.proofs.Items.{leads_none}
use Rattle.pcap_items.proofs.Pulling.{nothing_asked}
use Rattle.pcap_core.proofs.Refusals.{shown_fault}

-- known bytes from which some were taken
pub taken_known : (bytes taken : List ℕ) (left : Option (List ℕ)) → Consumes (Some bytes) left taken → (after : List ℕ) × (left ≡ Some after) × (bytes ≡ taken ++ after)
taken_known bytes taken None took = absurd took
taken_known bytes taken (Some after) took = (after, refl, took)

pub takes_none : {S V : Type 0} (f : Format S V) (q : S) (known : Option (List ℕ)) → TakesTexts f q [] known known
takes_none f q known = record { bytes = []; texts = refl; took = Consumes-nil known }

module _ {S V : Type 0} (f : Format S V) (laws : IsLawful f) (q : S) where
  -- one more item
  pub takes_more : (vs : List V) (v : V) (before left after : Option (List ℕ)) → TakesTexts f q vs before left → Takes (f.says (state_after f q vs)) left after v
      → TakesTexts f q (vs ++ v ∷ []) before after
  takes_more vs v before left after so_far next = record {
    bytes = so_far.bytes ++ next.0;
    texts = texts_push f q vs v (so_far.bytes ++ next.0) next.0 [] (texts_more f laws q vs so_far.bytes [] next.0 so_far.texts) next.1;
    took = Consumes-trans before left after so_far.bytes next.0 so_far.took next.2;
  }

  -- items after items
  pub takes_all : (vs ws : List V) (before left after : Option (List ℕ)) → TakesTexts f q vs before left → TakesTexts f (state_after f q vs) ws left after
      → TakesTexts f q (vs ++ ws) before after
  takes_all vs ws before left after so_far more = record {
    bytes = so_far.bytes ++ more.bytes;
    texts = texts_all f q vs ws (so_far.bytes ++ more.bytes) more.bytes [] (texts_more f laws q vs so_far.bytes [] more.bytes so_far.texts) more.texts;
    took = Consumes-trans before left after so_far.bytes more.bytes so_far.took more.took;
  }

  fault_none : (s : List ℕ) (fault : Fault) → f.says q s (faulty fault) ⊎ EarlyFault (f.says q) s fault → (v : V) (rest : List ℕ) → f.says q s (whole v rest) → ⊥
  fault_none s fault shown v rest text =
      elim shown [ inl stands ↦ fault_no_text f laws q fault s stands v rest text | inr early ↦ lacks_no_text f laws q early.n s early.lack v rest text ]

  -- an error of the rest, when no read failed and memory did not run out, shows that no item begins the rest
  ends_refused : (e : PcapError) (after rest : List ℕ) (more : List V) (failed : Bool) → Front f q more after rest → ((v : V) (r : List ℕ) → f.says q after (whole v r) → ⊥)
      → HasCause (f.says q) (Some after) failed e → (more ≡ []) × HasCause (f.says q) (Some rest) failed e
  ends_refused e after rest more failed front none cause =
      let all = nothing_more f laws q more after rest front none in
      (all.0, subst (λ (l : List ℕ). HasCause (f.says q) (Some l) failed e) (sym all.1) cause)

  -- the end of a run, in terms of the front
  pub ends_front : (fault : Option PcapError) (after rest : List ℕ) (more : List V) (now : Option (List ℕ)) (failed : Bool) (count most : ℕ)
      → Front f q more after rest → Stops (f.says q) (Some after) now failed count most fault → EndsFront (f.says q) rest more failed count most fault
  ends_front None after rest more now failed count most front stops =
      elim stops.2 [
        | inl end ↦
            let none = nothing_more f laws q more after rest front (λ v r text. nothing_no_text f laws q v r (subst (λ (t : List ℕ). f.says q t (whole v r)) end text)) in
            (stops.0, inl (none.0, none.1 ∙ end))
        | inr full ↦ (stops.0, inr full)
      ]
  ends_front (Some e) after rest more now failed count most front stops = (
    stops.0,
    elim stops.1 [
      | read_failed io is ↦ inl (io, is)
      | no_memory memory is ↦ inr (inl (memory, is))
      | torn io is short ↦ inr (inr (ends_refused e after rest more failed front (lacks_no_text f laws q short.1.n after short.1.lack) (torn io is short)))
      | refused shows is ↦
          let bad = shown_fault (IsFaultOf (f.says q) (Some after)) e shows in
          inr (inr (ends_refused e after rest more failed front (fault_none after bad.0 bad.1.shown) (refused shows is)))
    ],
  )

reads_known : {S V : Type 0} (f : Format S V) → IsLawful f → (q : S) (s : List ℕ) (now : Option (List ℕ)) (failed : Bool) (most : ℕ) (vs : List V) (fault : Option PcapError)
    → (left : Option (List ℕ)) → TakesTexts f q vs (Some s) left → length vs ≤ most → Stops (f.says (state_after f q vs)) left now failed (length vs) most fault → ReadsFront f q s most vs fault failed
reads_known {S} {V} f laws q s now failed most vs fault None took within stops = absurd took.took
reads_known {S} {V} f laws q s now failed most vs fault (Some after) took within stops =
    let whole_text : Texts f q vs (took.bytes ++ after) after = texts_more f laws q vs took.bytes [] after took.texts in
    let texts : Texts f q vs s after = subst (λ (l : List ℕ). Texts f q vs l after) (sym took.took) whole_text in
    let front = has_front f laws q s in
    let on = front_goes_on f laws q vs front.0 s after front.1 texts front.2 in
    record {
      more = on.0;
      rest = front.1;
      front = subst (λ (l : List V). Front f q l s front.1) on.1 front.2;
      within = within;
      ends = ends_front f laws (state_after f q vs) fault after front.1 on.0 now failed (length vs) most on.2 stops;
    }

-- a run over a stream with known bytes returns a beginning of their front
pub run_reads : {S V : Type 0} (f : Format S V) → IsLawful f → (q : S) (s : List ℕ) (now : Option (List ℕ)) (failed : Bool) (most : ℕ) (vs : List V) (fault : Option PcapError)
    → TakesItems f q (Some s) now failed most vs fault → ReadsFront f q s most vs fault failed
run_reads f laws q s now failed most vs fault run = reads_known f laws q s now failed most vs fault run.left run.took run.within run.stops

-- ---- runs over a reader

-- one more item
pub gives_more : {R X E : Type 0} (gives : R → Option (Result X E) → R → Type 0) (items : List X) (item : X) (old here now : R) → Yields gives old (map (λ x. Ok x) items) here → gives here (Some (Ok item)) now
    → Yields gives old (map (λ x. Ok x) (items ++ item ∷ [])) now
gives_more gives [] item old here now same step = (now, subst (λ r. gives r (Some (Ok item)) now) (sym same) step, refl)
gives_more gives (x ∷ items) item old here now gave step = (gave.0, gave.1, gives_more gives items item gave.0 here now gave.2 step)

module _ {R X S V W : Type 0} (f : Format S V) (part : V → W) (view : X → W) (owned : X → Type 0) (gives : R → Option (Result X PcapError) → R → Type 0)
    (from : AllocError → PcapError → Type 0) (kept : R → Type 0) (state : R → S) (left : R → Option (List ℕ)) (done failed : R → Bool) (see : R → X → V) where
  -- the verdicts of a reader's calls: if there is no item, the state is unchanged
  pub record SaysOf : Type 0 where
    pub keeps : (a b : R) (r : Option (Result X PcapError)) → kept a → gives a r b → kept b
    pub next : (a b : R) (r : Option (Result X PcapError)) → kept a → gives a r b → NextGives (f.says (state a)) (see b) (left a) (left b) (done a) (done b) (failed a) (failed b) r
    pub item : (a b : R) (x : X) → gives a (Some (Ok x)) b → (state b ≡ f.goes (state a) (see b x)) × (view x ≡ part (see b x)) × owned x
    pub none : (a b : R) → gives a None b → state b ≡ state a
    pub refusal : (a b : R) (e : PcapError) → gives a (Some (Err e)) b → state b ≡ state a
    pub memory : (refused : AllocError) (e : PcapError) → from refused e → IsMemory e

  -- the reader has returned no error
  abbrev pub IsReady : R → Type 0
  IsReady a = kept a × (done a ≡ false) × (failed a ≡ false)

  -- items that lead from one reader's state to the other's, and exactly whose bytes were taken
  abbrev pub Leads : R → R → List X → Type 0
  Leads a b xs = (bytes : List ℕ) × LeadsTo f part (state a) (state b) (map view xs) bytes [] × Consumes (left a) (left b) bytes × All owned xs

  module _ (laws : IsLawful f) (says : SaysOf) where
    ready_next : (a b : R) (r : Option (Result X PcapError)) → IsReady a → gives a r b → NextGives (f.says (state a)) (see b) (left a) (left b) false (done b) false (failed b) r
    ready_next a b r ready step = rw (ready.1, ready.2) at (says.next a b r ready.0 step)

    gave_leads : (xs : List X) (a b : R) → IsReady a → Yields gives a (map (λ x. Ok x) xs) b → IsReady b × Leads a b xs
    gave_leads [] a b ready same = subst (λ (r : R). IsReady r × Leads a r []) same (ready, ([], leads_none f part (state a) [], Consumes-nil (left a), All-nil owned))
    gave_leads (x ∷ xs) a b ready gave =
        let mid = gave.0 in
        let v = see mid x in
        let next = ready_next a mid (Some (Ok x)) ready gave.1 in
        let item = says.item a mid x gave.1 in
        let rest = gave_leads xs mid b (says.keeps a mid (Some (Ok x)) ready.0 gave.1, next.0, next.1) gave.2 in
        let more = rest.1.1 in
        let bytes = rest.1.0 in
        let leads : LeadsTo f part (state a) (state b) (view x ∷ map view xs) (next.2.0 ++ bytes) [] = record {
          values = v ∷ more.values;
          texts = (bytes, (laws.stable (state a)).text next.2.0 bytes [] v next.2.1, subst (λ (q : S). Texts f q more.values bytes []) item.0 more.texts);
          parts = cons_same (part v) (view x) (map part more.values) (map view xs) (sym item.1) more.parts;
          state_is = subst (λ (q : S). state_after f q more.values ≡ state b) item.0 more.state_is;
        } in
        (rest.0, (next.2.0 ++ bytes, leads, Consumes-trans (left a) (left mid) (left b) next.2.0 bytes next.2.2 rest.1.2, All-cons owned x xs item.2 rest.1.3))

    stops : (here now : R) (count most : ℕ) (fault : Option PcapError) → IsReady here → StopsAt gives from here now count most fault
        → Stops (f.says (state here)) (left here) (left now) (failed now) count most fault × (state now ≡ state here) × kept now × IfNone fault (done now ≡ false)
    stops here now count most None ready (inl full) = rw full.0 ((ready.2, Keeps-refl (left here), inr full.1), refl, ready.0, ready.1)
    stops here now count most None ready (inr step) =
        let next = ready_next here now None ready step in
        ((next.1, next.3, inl next.2), says.none here now step, says.keeps here now None ready.0 step, next.0)
    stops here now count most (Some e) ready (few, inl full) = rw full.0 ((few, no_memory (says.memory full.1 e full.2) ready.2, nothing_asked (f.says (state here)) (left here)), refl, ready.0, tt)
    stops here now count most (Some e) ready (few, inr step) =
        let next = ready_next here now (Some (Err e)) ready step in
        ((few, next.1, next.2), says.refusal here now e step, says.keeps here now (Some (Err e)) ready.0 step, tt)

    -- the run took the format's items
    pub run_takes : (old now : R) (most : ℕ) (xs : List X) (fault : Option PcapError) → IsReady old → GivesItems gives from old now most xs fault
        → TakesParts f part (state old) (state now) (left old) (left now) (failed now) most (map view xs) fault × kept now × IfNone fault (done now ≡ false) × All owned xs
    run_takes old now most xs fault ready run =
        let gave = gave_leads xs old run.here ready run.gave in
        let leads = gave.1.1 in
        let stop = stops run.here now (length xs) most fault gave.0 run.stops in
        let count : length leads.values ≡ length xs = sym (length-map leads.values part) ∙ ap length leads.parts ∙ length-map xs view in (
          record {
            items = leads.values;
            parts = leads.parts;
            state_is = leads.state_is ∙ sym stop.1;
            run = record {
              left = left run.here;
              took = record { bytes = gave.1.0; texts = leads.texts; took = gave.1.2 };
              within = rw count run.within;
              stops = rw (count, leads.state_is) stop.0;
            };
          },
          stop.2,
          stop.3,
          gave.1.3,
        )

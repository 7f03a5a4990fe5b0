-- Runs over parts that are cut at boundaries join to the run over the whole.
use Rattle.std.proofs.Common.{◌≡◌, ◌<◌, ◌+◌, ◌-◌, ℕ, List, [], ◌∷◌, ◌++◌, length, take, drop, refl, sym, ap, subst, ◌∙◌, arith, append_assoc, append-nil}
use Rattle.std.proofs.lemmas.List.{nil_from_length}
use Rattle.std.specs.List.{AllByRecursion, AllZip}
use Rattle.pcap_items.specs.declared.rest.Rest.{Rest}
use Rattle.pcap_items.specs.declared.rest.Rest.TheVariants.{Clean, Needs, Refused}
use Rattle.pcap_core.specs.Answer.{faulty}
use Rattle.pcap_core.specs.Faults.{Fault}
use Rattle.pcap_items.specs.Format.{Format, Front, IsLawful, state_after}
use Rattle.pcap_items.specs.Run.{IsRest}
use Rattle.pcap_items.proofs.Formats.{fault_some, front_goes_on, front_same, texts_own}
use Rattle.pcap_core.proofs.Refusals.{shown_fault}
use Rattle.pcap_core.proofs.Texts.{front_of}
use Rattle.pcap_items.proofs.Copying.{state_all}
use Rattle.pcap_parts.specs.declared.cut.Cut.{Cut}
use Rattle.pcap_parts.specs.PartRuns.{RunsOver, TakeParts}
use Rattle.pcap_parts.specs.Parts.{AreCuts, Bound, Rising, joined, part_bytes}
use Rattle.pcap_parts.proofs.InParts.{behind, beyond, texts_front}

-- If no bytes are left, the rest is clean.
nothing_left : {S V : Type 0} (f : Format S V) → IsLawful f → (q : S) (left : List ℕ) (said : Rest) → left ≡ [] → IsRest (f.says q) left said → said ≡ Clean
nothing_left f laws q left Clean none is = refl
nothing_left f laws q left (Needs n) none is = absurd (omega (arith, is.1, ap length none))
nothing_left f laws q left (Refused error) none is =
    let stands : (fault : Fault) × f.says q left (faulty fault) = shown_fault (λ (fault : Fault). f.says q left (faulty fault)) error is in
    absurd (omega (arith, fault_some f laws q left stands.0 stands.1, ap length none))

-- One more part before the others, which its run takes whole, keeps TakeParts.
takes_next : {X : Type 0} (used_of : X → ℕ) (rest_of : X → Rest) (Last : X → Type 0) (part : List ℕ) (run : X) (parts : List (List ℕ)) (runs : List X) → used_of run ≡ length part → rest_of run ≡ Clean
    → TakeParts used_of rest_of Last parts runs → TakeParts used_of rest_of Last (part ∷ parts) (run ∷ runs)
takes_next used_of rest_of Last part run (b ∷ bs) (r ∷ rs) used clean takes = (used, clean, takes)
takes_next used_of rest_of Last part run (b ∷ c ∷ bs) [] used clean takes = absurd takes
takes_next used_of rest_of Last part run _ _ used clean takes = absurd takes

-- The property of the last run may be replaced by one that follows from it.
pub last_is : {X : Type 0} (used_of : X → ℕ) (rest_of : X → Rest) (Last Now : X → Type 0) (parts : List (List ℕ)) (runs : List X) → TakeParts used_of rest_of Last parts runs
    → ((run : X) → Last run → Now run) → TakeParts used_of rest_of Now parts runs
last_is used_of rest_of Last Now (b ∷ []) (r ∷ []) takes now = now r takes
last_is used_of rest_of Last Now (b ∷ c ∷ bs) (r ∷ k ∷ rs) takes now = (takes.0, takes.1, last_is used_of rest_of Last Now (c ∷ bs) (k ∷ rs) takes.2 now)
last_is used_of rest_of Last Now _ _ takes now = absurd takes

-- Runs of a format, where `Has` relates a run to its items.
module _ {S V X : Type 0} (f : Format S V) (laws : IsLawful f) (used_of : X → ℕ) (rest_of : X → Rest) (Has : S → X → List V → Type 0) where
  -- RunFrom: a run over a part from this state.
  pub record RunFrom (p : S) (part : List ℕ) (run : X) : Type 0 where
    pub items : List V
    pub over : RunsOver f p items part (used_of run) (rest_of run)
    pub has : Has p run items

  -- EndsAs: the run leads to the state `end`, and its rest describes the bytes that it leaves.
  pub record EndsAs (end : S) (rest : List ℕ) (run : X) : Type 0 where
    pub from : S
    pub items : List V
    pub has : Has from run items
    pub leads : state_after f from items ≡ end
    pub said : IsRest (f.says end) rest (rest_of run)

  module _ (q : S) (h s : List ℕ) where
    -- AreRuns: each run is over its part, from the state at the boundary where the part begins.
    abbrev pub AreRuns : (cuts : List Cut) → AllByRecursion (Bound f q s (length (h ++ s))) cuts → List (List ℕ) → List X → Type 0
    AreRuns [] bounds [] [] = Unit {0}
    AreRuns (c ∷ cs) bounds (b ∷ bs) (r ∷ rs) = RunFrom (state_after f q bounds.0.items) b r × AreRuns cs bounds.1 bs rs
    AreRuns cuts bounds parts runs = ⊥

    -- RunsAre: the runs have all items behind `before`, and the last run ends as the whole does.
    pub record RunsAre (before all : List V) (rest : List ℕ) (parts : List (List ℕ)) (runs : List X) : Type 0 where
      pub found : List (List V)
      pub all_are : all ≡ before ++ joined found
      pub have : AllZip (λ items run. (p : S) × Has p run items) found runs
      pub ends : TakeParts used_of rest_of (EndsAs (state_after f q all) rest) parts runs

    run_last : (c : Cut) (b : Bound f q s (length (h ++ s)) c) (all : List V) (rest part : List ℕ) (run : X) → part ≡ b.rest → Front f q all s rest → RunFrom (state_after f q b.items) part run
        → RunsAre b.items all rest (part ∷ []) (run ∷ [])
    run_last c b all rest part run is front r =
        let p = state_after f q b.items in
        let on = front_goes_on f laws q b.items all s b.rest rest b.texts front in
        let here : Front f p on.0 part rest = subst (λ (t : List ℕ). Front f p on.0 t rest) (sym is) on.2 in
        let same = front_same f laws p r.items on.0 part r.over.left rest r.over.front here in
        let all_are : all ≡ b.items ++ r.items = on.1 ∙ ap (λ (l : List V). b.items ++ l) (sym same.0) in
        let leads : state_after f p r.items ≡ state_after f q all = sym (state_all f q b.items r.items) ∙ ap (λ (l : List V). state_after f q l) (sym all_are) in
        let there : IsRest (f.says (state_after f q all)) r.over.left (rest_of run) = subst (λ (z : S). IsRest (f.says z) r.over.left (rest_of run)) leads r.over.rest in
        let said : IsRest (f.says (state_after f q all)) rest (rest_of run) = subst (λ (t : List ℕ). IsRest (f.says (state_after f q all)) t (rest_of run)) same.1 there in
        record {
          found = r.items ∷ [];
          all_are = all_are ∙ ap (λ (l : List V). b.items ++ l) (sym (append-nil r.items));
          have = ((p, r.has), tt);
          ends = record { from = p; items = r.items; has = r.has; leads = leads; said = said };
        }

    run_next : (c d : Cut) (b : Bound f q s (length (h ++ s)) c) (e : Bound f q s (length (h ++ s)) d) (all : List V) (rest part : List ℕ) (run : X) (parts : List (List ℕ)) (runs : List X) → c.offset < d.offset
        → part ≡ take (d.offset - c.offset) (drop c.offset (h ++ s)) → RunFrom (state_after f q b.items) part run → RunsAre e.items all rest parts runs
        → RunsAre b.items all rest (part ∷ parts) (run ∷ runs)
    run_next c d b e all rest part run parts runs less is r deeper =
        let p = state_after f q b.items in
        let on = beyond f laws q b.items e.items s b.rest e.rest b.texts e.texts (omega (arith, less, b.place, e.place)) in
        let own = texts_own f laws p on.0 b.rest e.rest on.2 in
        let room : d.offset - c.offset + length e.rest ≡ length b.rest = omega (arith, less, b.place, e.place) in
        let part_is : part ≡ own.0 = is ∙ ap (λ (t : List ℕ). take (d.offset - c.offset) t) (behind f laws q h s c b) ∙ front_of b.rest own.0 e.rest (d.offset - c.offset) own.1 room in
        let here : Front f p on.0 part [] = subst (λ (t : List ℕ). Front f p on.0 t []) (sym part_is) (texts_front f laws p on.0 own.0 own.2) in
        let same = front_same f laws p r.items on.0 part r.over.left [] r.over.front here in
        let used : used_of run ≡ length part = omega (arith, r.over.used_is, ap length same.1) in
        let clean = nothing_left f laws (state_after f p r.items) r.over.left (rest_of run) same.1 r.over.rest in
        let items : e.items ≡ b.items ++ r.items = on.1 ∙ ap (λ (l : List V). b.items ++ l) (sym same.0) in
        record {
          found = r.items ∷ deeper.found;
          all_are = deeper.all_are ∙ ap (λ (l : List V). l ++ joined deeper.found) items ∙ append_assoc b.items r.items (joined deeper.found);
          have = ((p, r.has), deeper.have);
          ends = takes_next used_of rest_of (EndsAs (state_after f q all) rest) part run parts runs used clean deeper.ends;
        }

    runs_from : (c : Cut) (b : Bound f q s (length (h ++ s)) c) (cs : List Cut) (bounds : AllByRecursion (Bound f q s (length (h ++ s))) cs) → Rising (c ∷ cs) → (all : List V) (rest : List ℕ) → Front f q all s rest
        → (runs : List X) → AreRuns (c ∷ cs) (b, bounds) (part_bytes (h ++ s) (c ∷ cs)) runs → RunsAre b.items all rest (part_bytes (h ++ s) (c ∷ cs)) runs
    runs_from c b [] bounds rising all rest front (r ∷ []) are = run_last c b all rest (drop c.offset (h ++ s)) r (behind f laws q h s c b) front are.0
    runs_from c b [] bounds rising all rest front (r ∷ k ∷ rs) are = absurd are.1
    runs_from c b (d ∷ cs) bounds rising all rest front (r ∷ rs) are =
        run_next c d b bounds.0 all rest (take (d.offset - c.offset) (drop c.offset (h ++ s))) r (part_bytes (h ++ s) (d ∷ cs)) rs rising.0.0 refl are.0 (runs_from d bounds.0 cs bounds.1 rising.1 all rest front rs are.1)
    runs_from c b [] bounds rising all rest front [] are = absurd are
    runs_from c b (d ∷ cs) bounds rising all rest front [] are = absurd are

    -- The runs over all parts have all items, and the last run ends as the whole does.
    pub runs_join : (cuts : List Cut) (are : AreCuts f q s (length h) (length (h ++ s)) cuts) (all : List V) (rest : List ℕ) → Front f q all s rest → (bounds : AllByRecursion (Bound f q s (length (h ++ s))) cuts)
        → (runs : List X) → AreRuns cuts bounds (part_bytes (h ++ s) cuts) runs → RunsAre [] all rest (part_bytes (h ++ s) cuts) runs
    runs_join [] are all rest front bounds runs runs_are = absurd are.starts
    runs_join (c ∷ cs) are all rest front bounds runs runs_are =
        let none : bounds.0.items ≡ [] = nil_from_length bounds.0.items (bounds.0.count ∙ are.starts.1) in
        subst (λ (l : List V). RunsAre l all rest (part_bytes (h ++ s) (c ∷ cs)) runs) none (runs_from c bounds.0 cs bounds.1 are.rising all rest front runs runs_are)

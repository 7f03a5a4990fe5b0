-- The runs over the parts of a PcapNg capture join to the run over the whole.
use Rattle.std.proofs.Common.{◌≡◌, ℕ, List, [], ◌∷◌, ◌++◌, length, map, take, drop, ◌-◌, refl, sym, ap, subst, ◌∙◌}
use Rattle.std.specs.List.{AllByRecursion, AllZip}
use Rattle.std.proofs.lemmas.List.{map-append}
use Rattle.pcap_items.specs.declared.rest.Rest.{Rest}
use Rattle.pcap_items.specs.Format.{state_after}
use Rattle.pcap_items.specs.Run.{IsRest}
use Rattle.pcap_items.proofs.Formats.{text_same}
use Rattle.pcap_ng.specs.declared.run.NgRun.{NgRun}
use Rattle.pcap_ng.specs.Blocks.{Item, block_format}
use Rattle.pcap_ng.specs.Frames.{Framed}
use Rattle.pcap_ng.specs.Parser.{state_of}
use Rattle.pcap_ng.specs.Run.{IsRun}
use Rattle.pcap_ng.specs.State.{State, opening}
use Rattle.pcap_ng.proofs.BlockFormat.{blocks_lawful}
use Rattle.pcap_parts.specs.declared.cut_ng.NgCut.{NgCut}
use Rattle.pcap_parts.specs.declared.cut_ng.NgCuts.{NgCuts}
use Rattle.pcap_parts.specs.NgParts.{IsNgCut, ResumesAt, bounds_of, places_at}
use Rattle.pcap_parts.specs.PartRuns.{AreResumedRuns, IsResumedRun, NgPartRunsJoin, TakeParts, blocks_of}
use Rattle.pcap_parts.specs.Parts.{Bound, joined, part_bytes}
use Rattle.pcap_parts.specs.Resume.{Fed, IsFed, from_places}
use Rattle.pcap_parts.proofs.Joining.{AreRuns, EndsAs, RunFrom, last_is, runs_join}
use Rattle.pcap_parts.proofs.NgCaptures.{ng_cut_run}

-- HasBlocks: the run has the blocks of these items, and they lead to the state of its parser.
pub record HasBlocks (q : State) (run : NgRun) (items : List Item) : Type 0 where
  pub blocks : map (λ (item : Item). item.block) items ≡ blocks_of run
  pub leads : state_after block_format q items ≡ state_of run.parser

abbrev used : NgRun → ℕ
used run = run.used

abbrev said : NgRun → Rest
said run = run.rest

-- Items that are fed from the same slices lead to the same state.
fed_same : (q : State) (items others : List Item) (slices : List (List ℕ)) → Fed block_format q items slices → Fed block_format q others slices → state_after block_format q items ≡ state_after block_format q others
fed_same q [] [] [] x y = refl
fed_same q (i ∷ items) (k ∷ others) (s ∷ ss) x y =
    let one = text_same block_format blocks_lawful q i k s x.0 y.0 x.1 y.1 in
    let there : Fed block_format (block_format.goes q k) items ss = subst (λ (z : Item). Fed block_format (block_format.goes q z) items ss) one.0 x.2 in
    ap (λ (z : Item). state_after block_format (block_format.goes q z) items) one.0 ∙ fed_same (block_format.goes q k) items others ss there y.2
fed_same q [] _ (s ∷ ss) x y = absurd x
fed_same q (i ∷ items) _ [] x y = absurd x
fed_same q _ _ _ x y = absurd y

state_fed : (s : List ℕ) (slices : List (List ℕ)) (p q : State) → IsFed s slices p → IsFed s slices q → p ≡ q
state_fed s slices p q x y = sym x.state_is ∙ fed_same opening (x.header ∷ x.others) (y.header ∷ y.others) (s ∷ slices) x.fed y.fed ∙ y.state_is

-- The blocks of all lists of items are those of the runs.
blocks_are : (found : List (List Item)) (runs : List NgRun) → AllZip (λ items run. (p : State) × HasBlocks p run items) found runs → map (λ (item : Item). item.block) (joined found) ≡ joined (map blocks_of runs)
blocks_are [] [] have = refl
blocks_are (is ∷ iss) (r ∷ rs) have =
    map-append (λ (item : Item). item.block) is (joined iss) ∙ ap (λ (l : List Framed). l ++ map (λ (item : Item). item.block) (joined iss)) have.0.1.blocks ∙ ap (λ (l : List Framed). blocks_of r ++ l) (blocks_are iss rs have.1)
blocks_are _ _ have = absurd have

module _ (bytes places : List ℕ) (q : State) (h s : List ℕ) (split : bytes ≡ h ++ s) where
  -- A boundary in the same bytes, split into h and s.
  abbrev here : (c : NgCut) → Bound block_format q s (length bytes) c.at → Bound block_format q s (length (h ++ s)) c.at
  here c b = record { items = b.items; rest = b.rest; texts = b.texts; count = b.count; place = b.place ∙ ap length split }

  -- The boundaries of cuts at which a parser can be made again.
  abbrev bounds : (cuts : List NgCut) → AllByRecursion (ResumesAt bytes places q s) cuts → AllByRecursion (Bound block_format q s (length (h ++ s))) (bounds_of cuts)
  bounds [] all = tt
  bounds (c ∷ cs) all = (here c all.0.bound, bounds cs all.1)

  -- A run over a part at a cut is a run from the state at its boundary.
  run_from : (c : NgCut) (x : ResumesAt bytes places q s c) (part : List ℕ) (run : NgRun) → IsResumedRun bytes places c part run
      → RunFrom block_format blocks_lawful used said HasBlocks (state_after block_format q x.bound.items) part run
  run_from c x part run resumed =
      let state : resumed.state ≡ state_after block_format q x.bound.items =
      state_fed (drop c.header bytes) (from_places bytes (places_at places c)) resumed.state (state_after block_format q x.bound.items) resumed.fed x.fed in
      let mine : RunFrom block_format blocks_lawful used said HasBlocks resumed.state part run =
      record { items = resumed.runs.items; over = resumed.runs.runs; has = record { blocks = resumed.runs.blocks; leads = resumed.runs.leads } } in
      subst (λ (p : State). RunFrom block_format blocks_lawful used said HasBlocks p part run) state mine

  are_runs : (cuts : List NgCut) (all : AllByRecursion (ResumesAt bytes places q s) cuts) (runs : List NgRun) → AreResumedRuns bytes places cuts (part_bytes (h ++ s) (bounds_of cuts)) runs
      → AreRuns block_format blocks_lawful used said HasBlocks q h s (bounds_of cuts) (bounds cuts all) (part_bytes (h ++ s) (bounds_of cuts)) runs
  are_runs [] all [] runs_are = tt
  are_runs (c ∷ []) all (r ∷ []) runs_are = (run_from c all.0 (drop c.at.offset (h ++ s)) r runs_are.0, tt)
  are_runs (c ∷ []) all (r ∷ k ∷ rs) runs_are = absurd runs_are.1
  are_runs (c ∷ d ∷ cs) all (r ∷ rs) runs_are =
      (run_from c all.0 (take (d.at.offset - c.at.offset) (drop c.at.offset (h ++ s))) r runs_are.0, are_runs (d ∷ cs) all.1 rs runs_are.1)
  are_runs _ all _ runs_are = absurd runs_are

pub ng_part_runs : (run : NgRun) (cuts : NgCuts) (bytes : List ℕ) (runs : List NgRun) → IsRun run bytes → IsNgCut cuts bytes
    → AreResumedRuns bytes cuts.interfaces.items cuts.cuts.items (part_bytes bytes (bounds_of cuts.cuts.items)) runs → NgPartRunsJoin run (part_bytes bytes (bounds_of cuts.cuts.items)) runs
ng_part_runs run cuts bytes runs x y are =
    let r = ng_cut_run run cuts bytes x y in
    let places = cuts.interfaces.items in
    let at = bounds_of cuts.cuts.items in
    let parts = part_bytes (r.before ++ y.after) at in
    let here : AreResumedRuns bytes places cuts.cuts.items parts runs = subst (λ (t : List ℕ). AreResumedRuns bytes places cuts.cuts.items (part_bytes t at) runs) r.split are in
    let runs_are = are_runs bytes places y.first r.before y.after r.split cuts.cuts.items y.resume runs here in
    let bounds_are = bounds bytes places y.first r.before y.after r.split cuts.cuts.items y.resume in
    let join = runs_join block_format blocks_lawful used said HasBlocks y.first r.before y.after at r.cuts_are r.items r.left r.front bounds_are runs runs_are in
    let Last : NgRun → Type 0 = λ last. (state_of last.parser ≡ state_of run.parser) × IsRest (block_format.says (state_of run.parser)) r.left last.rest in
    let ends : TakeParts used said Last parts runs =
    last_is used said (EndsAs block_format blocks_lawful used said HasBlocks (state_after block_format y.first r.items) r.left) Last parts runs join.ends
    (λ last e. (sym e.has.leads ∙ e.leads ∙ r.state, subst (λ (p : State). IsRest (block_format.says p) r.left last.rest) r.state e.said)) in
    record {
      blocks = sym r.blocks ∙ ap (λ (l : List Item). map (λ (item : Item). item.block) l) join.all_are ∙ blocks_are join.found runs join.have;
      left = r.left;
      rest = r.rest;
      ends = subst (λ (t : List ℕ). TakeParts used said Last (part_bytes t at) runs) (sym r.split) ends;
    }

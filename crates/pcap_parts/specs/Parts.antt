-- Skipped items, cuts, and the parts of bytes, for any format.
use Rattle.std.specs.Prelude.{◌≡◌, ◌<◌, ◌≤◌, ◌+◌, ◌-◌, ◌*◌, ◌/◌, ◌⊎◌, ℕ, suc, List, [], ◌∷◌, ◌++◌, length, take, drop, ⊤, Option, None, Some, Result, Ok, Err}
use Rattle.std.specs.Borrow.{Bor}
use Rattle.std.specs.List.{AllByRecursion, Contains}
use Rattle.pcap_core.specs.declared.errors.PcapError.{PcapError}
use Rattle.pcap_items.specs.declared.rest.Rest.{Rest}
use Rattle.pcap_items.specs.declared.rest.Rest.TheVariants.{Clean}
use Rattle.pcap_core.specs.Answer.{Verdict, whole, lacks, faulty, Refuses}
use Rattle.pcap_items.specs.Format.{Format, Texts, state_after, Front}
use Rattle.pcap_items.specs.Run.{IsRest}
use Rattle.pcap_parts.specs.declared.cut.Cut.{Cut}

-- PassesOne: the result of a call that skips one item is the bytes behind the item, or the error that refuses it.
abbrev pub PassesOne : {V : Type 0} → (Verdict V → Type 0) → Result (Bor (List ℕ)) PcapError → Type 0
PassesOne {V = V} IsSaid (Ok rest) = (value : V) × IsSaid (whole value rest.now)
PassesOne IsSaid (Err error) = Refuses ⊥ (λ n. IsSaid (lacks n)) (λ fault. IsSaid (faulty fault)) error

module _ {S V : Type 0} (f : Format S V) where
  -- LastIsNeeded: there are no such items, or fewer than `at_least` bytes are skipped without the last of them.
  abbrev pub LastIsNeeded : S → List V → List ℕ → List ℕ → ℕ → Type 0
  LastIsNeeded q items s rest at_least =
      (items ≡ []) ⊎ ((before : List V) × (last : V) × (mid : List ℕ) × (items ≡ before ++ last ∷ []) × Texts f q before s mid
      × f.says (state_after f q before) mid (whole last rest) × (length s < at_least + length mid))

  -- StopsPassing: enough bytes are skipped and no rest is reported, or fewer bytes are skipped and `said` describes the rest.
  abbrev pub StopsPassing : S → List ℕ → List ℕ → ℕ → Option Rest → Type 0
  StopsPassing p s rest at_least None = at_least + length rest ≤ length s
  StopsPassing p s rest at_least (Some said) = (length s < at_least + length rest) × IsRest (f.says p) rest said

  -- Passes: n items are at the front of s, up to the first boundary at which enough bytes are skipped, or all items; `rest` follows.
  pub record Passes (q : S) (s rest : List ℕ) (at_least n : ℕ) (said : Option Rest) : Type 0 where
    pub items : List V
    pub count : length items ≡ n
    pub texts : Texts f q items s rest
    pub needed : LastIsNeeded q items s rest at_least
    pub stops : StopsPassing (state_after f q items) s rest at_least said

  -- PassesTo: items are skipped, and they lead to the state `reached`.
  pub record PassesTo (q reached : S) (s rest : List ℕ) (at_least n : ℕ) (said : Option Rest) : Type 0 where
    pub passes : Passes q s rest at_least n said
    pub leads : state_after f q passes.items ≡ reached

  -- KeepsNext: items at the front of s lead to the state `reached`, too few bytes are skipped, and keeping the next item needs memory.
  pub record KeepsNext (Grows : S → List ℕ → Type 0) (q reached : S) (s : List ℕ) (at_least : ℕ) : Type 0 where
    pub items : List V
    pub left : List ℕ
    pub texts : Texts f q items s left
    pub leads : state_after f q items ≡ reached
    pub needed : length s < at_least + length left
    pub grows : Grows reached left

  -- Bound: a boundary of the items of s, which end at the place `total`; the cut counts the items before it and has its place.
  pub record Bound (q : S) (s : List ℕ) (total : ℕ) (cut : Cut) : Type 0 where
    pub items : List V
    pub rest : List ℕ
    pub texts : Texts f q items s rest
    pub count : length items ≡ cut.before
    pub place : cut.offset + length rest ≡ total

-- EndsPassing: after a skip without an error, no rest is reported if there are enough bytes; otherwise the rest is clean.
abbrev pub EndsPassing : ℕ → ℕ → Option Rest → Type 0
EndsPassing bytes at_least None = at_least ≤ bytes
EndsPassing bytes at_least (Some said) = (bytes < at_least) × (said ≡ Clean)

-- Rising: each cut is behind the cuts before it.
abbrev pub Rising : List Cut → Type 0
Rising [] = ⊤
Rising (c ∷ cs) = AllByRecursion (λ (d : Cut). c.offset < d.offset) cs × Rising cs

-- Starts: the first cut is at the front, before all items.
abbrev pub Starts : ℕ → List Cut → Type 0
Starts front [] = ⊥
Starts front (c ∷ cs) = (c.offset ≡ front) × (c.before ≡ 0)

-- The bytes from each cut to the next one, and from the last cut to the end.
abbrev pub part_bytes : List ℕ → List Cut → List (List ℕ)
part_bytes bytes [] = []
part_bytes bytes (c ∷ []) = drop c.offset bytes ∷ []
part_bytes bytes (c ∷ d ∷ cs) = take (d.offset - c.offset) (drop c.offset bytes) ∷ part_bytes bytes (d ∷ cs)

-- The concatenation of these lists.
abbrev pub joined : {V : Type 0} → List (List V) → List V
joined [] = []
joined (vs ∷ vss) = vs ++ joined vss

-- CountsBefore: each cut counts the items before it: n, and those of the parts before it.
abbrev pub CountsBefore : {V : Type 0} → ℕ → List (List V) → List Cut → Type 0
CountsBefore n [] [] = ⊤
CountsBefore n (vs ∷ vss) (c ∷ cs) = (c.before ≡ n) × CountsBefore (n + length vs) vss cs
CountsBefore n _ _ = ⊥

module _ {S V : Type 0} (f : Format S V) where
  -- AreCuts: each cut is a boundary of the items of s, and the cuts rise from the front on.
  pub record AreCuts (q : S) (s : List ℕ) (front total : ℕ) (cuts : List Cut) : Type 0 where
    pub bounds : AllByRecursion (Bound f q s total) cuts
    pub rising : Rising cuts
    pub starts : Starts front cuts

  -- PartFronts: the front of each part, from the state behind the parts before it, is all of the part; the last part has the rest.
  abbrev pub PartFronts : S → List (List V) → List (List ℕ) → List ℕ → Type 0
  PartFronts p (vs ∷ []) (b ∷ []) rest = Front f p vs b rest
  PartFronts p (vs ∷ ws ∷ vss) (b ∷ c ∷ bs) rest = Front f p vs b [] × PartFronts (state_after f p vs) (ws ∷ vss) (c ∷ bs) rest
  PartFronts p _ _ rest = ⊥

  -- InParts: these items are those of the parts, joined in order, and each cut counts the items before it.
  pub record InParts (q : S) (vs : List V) (rest bytes : List ℕ) (cuts : List Cut) : Type 0 where
    pub parts : List (List V)
    pub all : vs ≡ joined parts
    pub fronts : PartFronts q parts (part_bytes bytes cuts) rest
    pub before : CountsBefore 0 parts cuts

-- An equal share of the bytes in whole bytes, rounded up.
abbrev pub share_of : ℕ → ℕ → ℕ
share_of bytes parts = (bytes - 1) / parts + 1

-- IsToNextEnd: the next share that is not the last ends n bytes behind what is skipped, or all of these shares have ended.
abbrev pub IsToNextEnd : ℕ → ℕ → ℕ → Option ℕ → Type 0
IsToNextEnd share parts passed None = (k : ℕ) → k ≤ parts - 1 → k * share ≤ passed
IsToNextEnd share parts passed (Some n) = (k : ℕ) × (k < parts - 1) × (k * share ≤ passed) × (passed + n ≡ suc k * share) × (0 < n)

module _ {S V : Type 0} (f : Format S V) (q : S) (s : List ℕ) (total : ℕ) where
  -- FirstBound: the cut is the first boundary of the items of s at or behind this place.
  pub record FirstBound (place : ℕ) (cut : Cut) : Type 0 where
    pub bound : Bound f q s total cut
    pub behind : place ≤ cut.offset
    pub first : (other : Cut) → Bound f q s total other → place ≤ other.offset → cut.offset ≤ other.offset

  -- EndsShares: the cut is the first boundary at or behind the end of some of the shares, but not of all.
  pub record EndsShares (front parts : ℕ) (cut : Cut) : Type 0 where
    pub shares : ℕ
    pub not_all : shares ≤ parts - 1
    pub first_bound : FirstBound (front + shares * share_of (length s) parts) cut

  -- AreFair: parts begin at the front and at the first boundary at or behind each share's end that has bytes behind it, nowhere else.
  pub record AreFair (front parts : ℕ) (cuts : List Cut) : Type 0 where
    pub wanted : AllByRecursion (EndsShares front parts) cuts
    pub followed : AllByRecursion (λ (cut : Cut). (cut.offset ≡ front) ⊎ (cut.offset < total)) cuts
    pub all : (cut : Cut) → EndsShares front parts cut → cut.offset < total → Contains cuts cut
    pub few : length cuts ≤ parts - 1 + 1

module _ {S V : Type 0} (f : Format S V) (q : S) (s : List ℕ) (total n : ℕ) where
  -- NoneFollows: no boundary that has bytes behind it is at least n bytes behind the cut.
  abbrev pub NoneFollows : Cut → Type 0
  NoneFollows cut = (other : Cut) → Bound f q s total other → cut.offset + n ≤ other.offset → other.offset < total → ⊥

  -- AreSteps: each cut is the first boundary at least n bytes behind the one before it, with bytes behind it; the last fulfils `Ends`.
  abbrev pub AreSteps : (Cut → Type 0) → List Cut → Type 0
  AreSteps Ends [] = ⊥
  AreSteps Ends (c ∷ []) = Ends c
  AreSteps Ends (c ∷ d ∷ cs) = FirstBound f q s total (c.offset + n) d × (d.offset < total) × AreSteps Ends (d ∷ cs)

  -- HaveAtLeast: the parts have at least n bytes each, all but the last no item more than needed, and there are as many as possible.
  abbrev pub HaveAtLeast : List Cut → Type 0
  HaveAtLeast cuts = AreSteps NoneFollows cuts

-- The items that a walk over a stream meets, and what a sink keeps of them, over any format and any sink.
use Rattle.std.specs.Prelude.{⊤, ◌≡◌, ◌<◌, ◌≤◌, ◌+◌, ◌⊎◌, ℕ, List, [], ◌∷◌, ◌++◌, length, take, Bool, true, false, Option, Some, None, Result, Ok, Err}
use Rattle.std.specs.Io.KnownBytes.{Consumes, Keeps, IsAtEnd}
use Rattle.pcap_core.specs.declared.errors.PcapError.{PcapError}
use Rattle.pcap_core.specs.Answer.{whole}
use Rattle.pcap_items.specs.Format.{Format, Texts, state_after}
use Rattle.pcap_items.specs.Reading.{HasCause, TakesAsked}
use Rattle.pcap_items.specs.Takes.{TakesTexts, TakesItems}
use Rattle.pcap_walk.specs.declared.walking.Ended.{Ended}
use Rattle.pcap_walk.specs.declared.walking.Ended.TheVariants.{AtEnd, AtMost, Refused, Stopped}

-- Does V K E: the behavior of a sink at an item with this index, value and text. It relates the kept value and the output before
-- the item to those after it.
abbrev pub Does : (V K E : Type 0) → Type 1
Does V K E = ℕ → V → List ℕ → K → Option (List ℕ) → K → Option (List ℕ) → Result (Unit {0}) E → Type 0

-- The behavior of a sink that sees the walker, the item's head and its text.
abbrev pub does_of : {F H V K E : Type 0} → (F → H → List ℕ → V) → (ℕ → K → Bool) → (ℕ → F → H → List ℕ → K → Option (List ℕ) → K → Option (List ℕ) → Result (Unit {0}) E → Type 0) → Does V K E
does_of {F = F} {H = H} value wants gives index item text old out new out_now result =
    (walker : F) × (head : H) × (value walker head text ≡ item) × (wants index old ≡ true) × gives index walker head text old out new out_now result

-- Serves format setting value fits: every text of an item, under any state of the format, fits the sink.
abbrev pub Serves : {S V F H T : Type 0} → (T → Format S V) → (F → T) → (F → H → List ℕ → V) → (F → H → List ℕ → Type 0) → Type 0
Serves {S = S} {F = F} {H = H} format setting value fits =
    (walker : F) (head : H) (text : List ℕ) (q : S) → (format (setting walker)).says q text (whole (value walker head text) []) → fits walker head text

module _ {V K E : Type 0} (does : Does V K E) where
  -- Folds n items bytes ..: what a sink keeps of these items and their bytes, if n items came before. Buffered output may be
  -- written before each item and after the last.
  abbrev pub Folds : ℕ → List V → List ℕ → K → Option (List ℕ) → K → Option (List ℕ) → Type 0
  Folds n [] bytes old out new out_now = (bytes ≡ []) × (new ≡ old) × Keeps out out_now
  Folds n (v ∷ vs) bytes old out new out_now =
      (text : List ℕ) × (after : List ℕ) × (kept : K) × (ready : Option (List ℕ)) × (mid : Option (List ℕ))
      × (bytes ≡ text ++ after) × Keeps out ready × does (n + 1) v text old ready kept mid (Ok tt) × Folds (n + 1) vs after kept mid new out_now

module _ {S V K E : Type 0} (f : Format S V) (does : Does V K E) where
  -- Exactly these items were taken, they lead from one state to another, and this is kept of them.
  pub record Walks (q here : S) (before left : Option (List ℕ)) (n m : ℕ) (old new : K) (out out_now : Option (List ℕ)) : Type 0 where
    pub items : List V
    pub count : m ≡ n + length items
    pub leads : state_after f q items ≡ here
    pub took : TakesTexts f q items before left
    pub kept : Folds does n items took.bytes old out new out_now

  -- These bytes are items that leave the state unchanged, and this is kept of them.
  pub record Meets (q : S) (bytes : List ℕ) (n m : ℕ) (old new : K) (out out_now : Option (List ℕ)) : Type 0 where
    pub items : List V
    pub count : m ≡ n + length items
    pub texts : Texts f q items bytes []
    pub leave : state_after f q items ≡ q
    pub kept : Folds does n items bytes old out new out_now

  -- These bytes are such items, and one more, at which the sink stopped.
  pub record MeetsStop (q : S) (bytes : List ℕ) (n m : ℕ) (old new : K) (out out_now : Option (List ℕ)) (stop : E) : Type 0 where
    pub front : List ℕ
    pub text : List ℕ
    pub split : bytes ≡ front ++ text
    pub kept : K
    pub mid : Option (List ℕ)
    pub so_far : Meets q front n m old kept out mid
    pub item : V
    pub is_text : f.says q text (whole item [])
    pub stops : does (m + 1) item text kept mid new out_now (Err stop)

  -- Of the bytes of a buffer the walk met items, at most `most`; or these and one more, at which the sink stopped.
  abbrev pub MeetsShown : S → List ℕ → ℕ → ℕ → ℕ → K → K → Option (List ℕ) → Option (List ℕ) → Option E → Type 0
  MeetsShown q bytes most n m old new out out_now None = Meets q bytes n m old new out out_now × (n ≤ m) × (m ≤ most)
  MeetsShown q bytes most n m old new out out_now (Some stop) = MeetsStop q bytes n m old new out out_now stop × (n ≤ m) × (m < most)

  -- The next item was taken, and the sink stopped there.
  pub record StopsAt (q : S) (left now : Option (List ℕ)) (n : ℕ) (old new : K) (out out_now : Option (List ℕ)) (stop : E) : Type 0 where
    pub item : V
    pub text : List ℕ
    pub is_text : f.says q text (whole item [])
    pub took : Consumes left now text
    pub stops : does (n + 1) item text old out new out_now (Err stop)

  module _ (IsUnready : E → Type 0) (wants : ℕ → K → Bool) where
    -- A walk ends after n items for one of these causes. At the end of the stream or at the most items, nothing more was taken.
    -- At a refusal, no more was taken than was requested. The sink stopped at the next item, or before it because buffered output
    -- could not be written.
    abbrev pub Ends : S → Option (List ℕ) → Option (List ℕ) → Bool → ℕ → ℕ → K → K → Option (List ℕ) → Option (List ℕ) → Ended E → Type 0
    Ends here left now failed most n old new out out_now AtEnd = (n < most) × (failed ≡ false) × IsAtEnd left × Keeps left now × (new ≡ old) × Keeps out out_now
    Ends here left now failed most n old new out out_now AtMost = ((n ≡ most) ⊎ (wants (n + 1) old ≡ false)) × (failed ≡ false) × Keeps left now × (new ≡ old) × Keeps out out_now
    Ends here left now failed most n old new out out_now (Refused e) =
        (n < most) × HasCause (f.says here) left failed e × TakesAsked (f.says here) left now × (new ≡ old) × Keeps out out_now
    Ends here left now failed most n old new out out_now (Stopped stop) =
        (n < most) × (failed ≡ false) × (StopsAt here left now n old new out out_now stop ⊎ (IsUnready stop × Keeps left now × (new ≡ old) × Keeps out out_now))

    -- Items were taken, this is kept of them, and then the walk ended.
    pub record EndsWalk (q : S) (before now : Option (List ℕ)) (failed : Bool) (most n m : ℕ) (old new : K) (out out_now : Option (List ℕ)) (ended : Ended E) : Type 0 where
      pub here : S
      pub left : Option (List ℕ)
      pub kept : K
      pub mid : Option (List ℕ)
      pub so_far : Walks q here before left n m old kept out mid
      pub ends : Ends here left now failed most m kept new mid out_now ended

    -- In one turn the walk goes on after more items, or it ends.
    abbrev pub TurnGives : S → S → Option (List ℕ) → Option (List ℕ) → Bool → ℕ → ℕ → ℕ → K → K → Option (List ℕ) → Option (List ℕ) → Option (Ended E) → Type 0
    TurnGives q here before now failed most n m old new out out_now None =
        Walks q here before now n m old new out out_now × (failed ≡ false) × (n < m) × (m ≤ most)
    TurnGives q here before now failed most n m old new out out_now (Some ended) = EndsWalk q before now failed most n m old new out out_now ended

-- ---- What a walk took if the sink did not stop.

-- The error at which a walk ended, if it did.
abbrev pub fault_of : {E : Type 0} → Ended E → Option PcapError
fault_of AtEnd = None
fault_of AtMost = None
fault_of (Refused e) = Some e
fault_of (Stopped stop) = None

-- The walk ended because the sink stopped.
abbrev pub IsStop : {E : Type 0} → Ended E → Type 0
IsStop (Stopped stop) = ⊤
IsStop ended = ⊥

-- Items were taken up to a cause to stop, at most `most`, and this is kept of them.
pub record TakesAndKeeps {S V K E : Type 0} (f : Format S V) (does : Does V K E) (q : S) (before now : Option (List ℕ)) (failed : Bool) (most m : ℕ) (old new : K) (out out_now : Option (List ℕ)) (fault : Option PcapError) : Type 0 where
  pub items : List V
  pub count : m ≡ length items
  pub run : TakesItems f q before now failed most items fault
  pub kept : Folds does 0 items run.took.bytes old out new out_now

-- ---- Walkers.

module _ {S V H : Type 0} (f : Format S V) (value : H → List ℕ → V) where
  -- StandsInFront q bytes head size: an item with this head and size begins the bytes, and leaves the state unchanged.
  pub record StandsInFront (q : S) (bytes : List ℕ) (head : H) (size : ℕ) : Type 0 where
    pub within : size ≤ length bytes
    pub text : f.says q (take size bytes) (whole (value head (take size bytes)) [])
    pub stays : f.goes q (value head (take size bytes)) ≡ q

  -- HoldsNext q next before after held failed result: exactly one item was taken, its bytes are held, and it is in force. Or the
  -- stream is at its end, and nothing was taken. Or there is a refusal, and no more was taken than was requested.
  abbrev pub HoldsNext : S → S → Option (List ℕ) → Option (List ℕ) → List ℕ → Bool → Result (Option H) PcapError → Type 0
  HoldsNext q next before after held failed (Ok (Some head)) =
      (failed ≡ false) × f.says q held (whole (value head held) []) × (f.goes q (value head held) ≡ next) × Consumes before after held
  HoldsNext q next before after held failed (Ok None) = (failed ≡ false) × IsAtEnd before × Keeps before after
  HoldsNext q next before after held failed (Err e) = HasCause (f.says q) before failed e × TakesAsked (f.says q) before after

-- The items that a run takes from a stream, for any format.
use Rattle.std.specs.Prelude.{◌≡◌, ◌<◌, ◌≤◌, ◌⊎◌, ℕ, List, [], ◌++◌, length, map, Bool, true, false, Option, None, Some, Result, Ok, Err}
use Rattle.std.specs.Iterator.{Yields}
use Rattle.std.specs.Io.KnownBytes.{Consumes, Keeps, IsAtEnd}
use Rattle.std.specs.declared.alloc.AllocError.{AllocError}
use Rattle.pcap_core.specs.declared.errors.PcapError.{PcapError}
use Rattle.pcap_core.specs.Answer.{Verdict}
use Rattle.pcap_core.specs.Errors.{IsMemory, IsIo}
use Rattle.pcap_items.specs.Format.{Format, Texts, state_after, Front}
use Rattle.pcap_items.specs.Reading.{HasCause, TakesAsked}

-- Stops: why a run stopped. Without an error it was at the end of the stream or at `most` items, and took nothing more. An error has a
-- cause and came before `most` items, and no more was taken than requested.
abbrev pub Stops : {V : Type 0} → (List ℕ → Verdict V → Type 0) → Option (List ℕ) → Option (List ℕ) → Bool → ℕ → ℕ → Option PcapError → Type 0
Stops IsSaid left now failed count most None = (failed ≡ false) × Keeps left now × (IsAtEnd left ⊎ (count ≡ most))
Stops IsSaid left now failed count most (Some e) = (count < most) × HasCause IsSaid left failed e × TakesAsked IsSaid left now

-- EndsFront: what the end of a run says about the front. Without an error the items are all of it and nothing is left, or they are the
-- first `most`. If no read failed and memory did not run out, an error is that of the rest, and the items are the whole front.
abbrev pub EndsFront : {V : Type 0} → (List ℕ → Verdict V → Type 0) → List ℕ → List V → Bool → ℕ → ℕ → Option PcapError → Type 0
EndsFront IsSaid rest more failed count most None = (failed ≡ false) × (((more ≡ []) × (rest ≡ [])) ⊎ (count ≡ most))
EndsFront IsSaid rest more failed count most (Some e) =
    (count < most) × ((IsIo e × (failed ≡ true)) ⊎ (IsMemory e × (failed ≡ false)) ⊎ ((more ≡ []) × HasCause IsSaid (Some rest) failed e))

module _ {S V : Type 0} (f : Format S V) where
  -- TakesTexts q vs before left: exactly the bytes of the items vs were taken.
  pub record TakesTexts (q : S) (vs : List V) (before left : Option (List ℕ)) : Type 0 where
    pub bytes : List ℕ
    pub texts : Texts f q vs bytes []
    pub took : Consumes before left bytes

  -- TakesItems: a run took the bytes of these items, at most `most`, from the stream, and then stopped.
  pub record TakesItems (q : S) (before now : Option (List ℕ)) (failed : Bool) (most : ℕ) (vs : List V) (fault : Option PcapError) : Type 0 where
    pub left : Option (List ℕ)
    pub took : TakesTexts q vs before left
    pub within : length vs ≤ most
    pub stops : Stops (f.says (state_after f q vs)) left now failed (length vs) most fault

  -- ReadsFront: the items are a beginning of those of the front, whatever failed.
  pub record ReadsFront (q : S) (s : List ℕ) (most : ℕ) (vs : List V) (fault : Option PcapError) (failed : Bool) : Type 0 where
    pub more : List V
    pub rest : List ℕ
    pub front : Front f q (vs ++ more) s rest
    pub within : length vs ≤ most
    pub ends : EndsFront (f.says (state_after f q vs)) rest more failed (length vs) most fault

-- ---- runs over a reader, which returns one item for each call

-- StopsAt: why a run stopped: it had `most` items, or the reader returned None; or memory ran out, or the reader returned an error.
abbrev pub StopsAt : {R X E : Type 0} → (R → Option (Result X E) → R → Type 0) → (AllocError → E → Type 0) → R → R → ℕ → ℕ → Option E → Type 0
StopsAt gives from here now count most None = ((now ≡ here) × (count ≡ most)) ⊎ gives here None now
StopsAt gives from here now count most (Some e) = (count < most) × (((now ≡ here) × (refused : AllocError) × from refused e) ⊎ gives here (Some (Err e)) now)

-- GivesItems: a reader's calls returned these items, at most `most`, and then the run stopped.
pub record GivesItems {R X E : Type 0} (gives : R → Option (Result X E) → R → Type 0) (from : AllocError → E → Type 0)
    (old now : R) (most : ℕ) (items : List X) (fault : Option E) : Type 0 where
  pub here : R
  pub gave : Yields gives old (map (λ x. Ok x) items) here
  pub within : length items ≤ most
  pub stops : StopsAt gives from here now (length items) most fault

-- TakesParts: a run took items whose kept parts are ws, at most `most`, and then stopped. The items lead from one state to the next.
pub record TakesParts {S V W : Type 0} (f : Format S V) (part : V → W) (q next : S)
    (before now : Option (List ℕ)) (failed : Bool) (most : ℕ) (ws : List W) (fault : Option PcapError) : Type 0 where
  pub items : List V
  pub parts : map part items ≡ ws
  pub state_is : state_after f q items ≡ next
  pub run : TakesItems f q before now failed most items fault

-- The items that a copy takes and the bytes that it writes, for any format.
use Rattle.std.specs.Prelude.{◌≡◌, ◌<◌, ◌≤◌, ◌+◌, ◌⊎◌, ℕ, List, [], ◌∷◌, ◌++◌, length, Bool, true, false, Option, None, Some, Result, Ok, Err}
use Rattle.std.specs.List.{flat_map}
use Rattle.std.specs.Option.{IsSomeAnd}
use Rattle.std.specs.Io.KnownBytes.{Consumes, Appends, Keeps, IsAtEnd}
use Rattle.pcap_core.specs.declared.errors.PcapError.{PcapError}
use Rattle.pcap_items.specs.declared.stream.copying.Tally.{Tally}
use Rattle.pcap_core.specs.Answer.{Verdict, whole}
use Rattle.pcap_core.specs.Errors.{IsIo}
use Rattle.pcap_items.specs.Format.{Format, Texts, state_after}
use Rattle.pcap_items.specs.Reading.{HasCause, TakesAsked}
use Rattle.pcap_items.specs.Writing.{AppendsPart}

-- IsWriting written: for items that follow one another, what is written of all of them is what is written of each part, joined.
pub record IsWriting {V : Type 0} (written : List V → List ℕ → List ℕ) : Type 0 where
  pub nothing : written [] [] ≡ []
  pub joined : (vs ws : List V) (s t : List ℕ) → written (vs ++ ws) (s ++ t) ≡ written vs s ++ written ws t

-- each_written gives the bytes that are written for each item, whatever its bytes were.
abbrev pub each_written : {V : Type 0} → (V → List ℕ) → List V → List ℕ → List ℕ
each_written text items bytes = flat_map text items

-- NothingCopied tally: nothing was copied yet, and nothing failed.
pub record NothingCopied (tally : Tally) : Type 0 where
  pub none : tally.items ≡ 0
  pub no_read_failed : tally.read_failed ≡ false
  pub no_write_failed : tally.write_failed ≡ false

-- EndsWhole: nothing was refused, nothing more was taken, and nothing more was written.
pub record EndsWhole (left now mid out_now : Option (List ℕ)) (fault : Option PcapError) (read_failed write_failed : Bool) : Type 0 where
  pub fine : fault ≡ None
  pub no_read_failed : read_failed ≡ false
  pub no_write_failed : write_failed ≡ false
  pub taken : Keeps left now
  pub out : Keeps mid out_now

module _ {V : Type 0} (written : List V → List ℕ → List ℕ) (IsSaid : List ℕ → Verdict V → Type 0) where
  -- EndsTorn: the next item was taken, and a write failed inside what is written of it.
  pub record EndsTorn (left now mid out_now : Option (List ℕ)) (fault : Option PcapError) (failed_read failed_write : Bool) : Type 0 where
    pub item : V
    pub text : List ℕ
    pub is_text : IsSaid text (whole item [])
    pub took : Consumes left now text
    pub refused : IsSomeAnd fault IsIo
    pub no_read_failed : failed_read ≡ false
    pub write_failed : failed_write ≡ true
    pub out : AppendsPart mid out_now (written (item ∷ []) text)

  -- EndsRefused: what is left was refused, a part of it was taken, and nothing more was written.
  pub record EndsRefused (left now mid out_now : Option (List ℕ)) (fault : Option PcapError) (read_failed write_failed : Bool) : Type 0 where
    pub refused : IsSomeAnd fault (HasCause IsSaid left read_failed)
    pub part : TakesAsked IsSaid left now
    pub no_write_failed : write_failed ≡ false
    pub out : Keeps mid out_now

  -- Fails: a copy ends with an error.
  abbrev pub Fails : Option (List ℕ) → Option (List ℕ) → Option (List ℕ) → Option (List ℕ) → Option PcapError → Bool → Bool → Type 0
  Fails left now mid out_now fault read_failed write_failed =
      EndsTorn left now mid out_now fault read_failed write_failed ⊎ EndsRefused left now mid out_now fault read_failed write_failed

  -- Ends: why a copy ended after `count` items: at the end of the stream, at `most` items, or with an error before that.
  abbrev pub Ends : Option (List ℕ) → Option (List ℕ) → Option (List ℕ) → Option (List ℕ) → ℕ → ℕ → Option PcapError → Bool → Bool → Type 0
  Ends left now mid out_now most count fault read_failed write_failed =
      (EndsWhole left now mid out_now fault read_failed write_failed × (IsAtEnd left ⊎ (count ≡ most)))
      ⊎ ((count < most) × Fails left now mid out_now fault read_failed write_failed)

module _ {S V : Type 0} (f : Format S V) (written : List V → List ℕ → List ℕ) where
  -- CopiesTexts q vs before left out mid: exactly the bytes of the items vs were taken, and exactly what is written of them was written.
  pub record CopiesTexts (q : S) (vs : List V) (before left out mid : Option (List ℕ)) : Type 0 where
    pub bytes : List ℕ
    pub texts : Texts f q vs bytes []
    pub took : Consumes before left bytes
    pub went : Appends out mid (written vs bytes)

  -- CopiesTo q reached .. n m: after n items, further items were copied, which makes m in all, and they lead from q to `reached`.
  pub record CopiesTo (q reached : S) (before left out mid : Option (List ℕ)) (n m : ℕ) : Type 0 where
    pub items : List V
    pub leads : state_after f q items ≡ reached
    pub texts : CopiesTexts q items before left out mid
    pub count : m ≡ n + length items

  -- FailsBehind: items that leave the state unchanged were copied, and then there was an error, before `most` items.
  pub record FailsBehind (q : S) (before now out out_now : Option (List ℕ))
      (n most m : ℕ) (fault : Option PcapError) (read_failed write_failed : Bool) : Type 0 where
    pub left : Option (List ℕ)
    pub mid : Option (List ℕ)
    pub so_far : CopiesTo q q before left out mid n m
    pub few : m < most
    pub why : Fails written (f.says q) left now mid out_now fault read_failed write_failed

  -- Steps: one step of a copy after n items: items were copied, or the stream is at its end, or there was an error.
  abbrev pub Steps : S → S → Option (List ℕ) → Option (List ℕ) → Option (List ℕ) → Option (List ℕ) → ℕ → ℕ → Tally → Result Bool PcapError → Type 0
  Steps q next before now out out_now n most tally (Ok true) =
      CopiesTo q next before now out out_now n tally.items × (tally.items ≤ most) × (tally.read_failed ≡ false) × (tally.write_failed ≡ false)
  Steps q next before now out out_now n most tally (Ok false) =
      (tally.items ≡ n) × IsAtEnd before × EndsWhole before now out out_now None tally.read_failed tally.write_failed
  Steps q next before now out out_now n most tally (Err e) =
      FailsBehind q before now out out_now n most tally.items (Some e) tally.read_failed tally.write_failed

  -- CopiesBehind: n items were copied from a state on, until the copy ended with this error, or none.
  pub record CopiesBehind (q : S) (before now out out_now : Option (List ℕ))
      (most n : ℕ) (fault : Option PcapError) (read_failed write_failed : Bool) : Type 0 where
    pub items : List V
    pub left : Option (List ℕ)
    pub mid : Option (List ℕ)
    pub texts : CopiesTexts q items before left out mid
    pub count : n ≡ length items
    pub within : n ≤ most
    pub ends : Ends written (f.says (state_after f q items)) left now mid out_now most n fault read_failed write_failed

  -- SendsWhole: these bytes are n items that leave the state unchanged, and what is written of them was written.
  pub record SendsWhole (q : S) (bytes : List ℕ) (before after : Option (List ℕ)) (n : ℕ) : Type 0 where
    pub items : List V
    pub count : length items ≡ n
    pub texts : Texts f q items bytes []
    pub leave : state_after f q items ≡ q
    pub out : Appends before after (written items bytes)

  -- SendsTorn: these bytes are n such items, and one more in which a write failed.
  pub record SendsTorn (q : S) (bytes : List ℕ) (before after : Option (List ℕ)) (n : ℕ) : Type 0 where
    pub front : List ℕ
    pub text : List ℕ
    pub split : bytes ≡ front ++ text
    pub mid : Option (List ℕ)
    pub whole_ones : SendsWhole q front before mid n
    pub item : V
    pub is_text : f.says q text (whole item [])
    pub out : AppendsPart mid after (written (item ∷ []) text)

  -- Sends: the part of a buffer that was written: at most `most` whole items; or fewer, and a beginning of the next one, where a write
  -- failed.
  abbrev pub Sends : S → List ℕ → Option (List ℕ) → Option (List ℕ) → ℕ → ℕ → Bool → Bool → Option PcapError → Type 0
  Sends q bytes before after most n old new None = SendsWhole q bytes before after n × (n ≤ most) × (new ≡ old)
  Sends q bytes before after most n old new (Some e) = SendsTorn q bytes before after n × (n < most) × IsIo e × (new ≡ true)

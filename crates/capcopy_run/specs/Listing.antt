-- This file defines what the program reads and writes when it lists a capture, one line for each item.
use Rattle.std.specs.Prelude.{◌≡◌, ◌<◌, ◌⊎◌, ⊤, ℕ, suc, List, ◌∷◌, [], ◌++◌, Option, Some, Result, Ok, Err, length}
use Rattle.std.specs.Io.KnownBytes.{Keeps, Appends, IsAtEnd}
use Rattle.pcap_core.specs.declared.errors.PcapError.{PcapError}
use Rattle.pcap_core.specs.declared.errors.PcapError.TheVariants.{IoError}
use Rattle.pcap_core.specs.Answer.{Verdict, whole}
use Rattle.pcap_core.specs.Faults.{Shows}
use Rattle.pcap_items.specs.Format.{Format, Front, state_after}
use Rattle.pcap_items.specs.Reading.{IsFaultOf, Takes, TakesAsked}
use Rattle.pcap_items.specs.Takes.{TakesTexts}
use Rattle.pcap_items.specs.Writing.{AppendsPart}
use Rattle.pcap_program.specs.declared.exit.Exit.{Exit}
use Rattle.pcap_program.specs.declared.exit.Exit.TheVariants.{Done, Refused, Most, Usage, Io, Memory}
use Rattle.capcopy_run.specs.Lines.{AreLines}

-- A kind of capture that is listed has an opening, items after it, and lines for both.
pub record Kind (O S V : Type 0) : Type 1 where
  -- what reading the opening from bytes returns
  pub opens : List ℕ → Verdict O → Type 0
  -- whether reading the opening may need memory
  pub grows : Type 0
  -- the line of the opening, empty if it has none
  pub heading : O → List ℕ
  -- the format of the items after the opening
  pub format : O → Format S V
  -- the state after the opening
  pub start : O → S
  -- the line of the item at an index
  pub IsLine : ℕ → V → List ℕ → Type 0

module _ {V : Type 0} (IsLine : ℕ → V → List ℕ → Type 0) (IsSaid : List ℕ → Verdict V → Type 0) where
  -- TearsNext: after n lines the next item was read, and a write failed within its line.
  pub record TearsNext (left mid out_now : Option (List ℕ)) (n : ℕ) : Type 0 where
    pub item : V
    pub now : Option (List ℕ)
    pub took : Takes IsSaid left now item
    pub line : List ℕ
    pub is_line : IsLine (suc n) item line
    pub out : AppendsPart mid out_now line

  -- LinesEnd: after n lines the run ended: at the end of the stream, at the most lines, or before both with this error.
  abbrev pub LinesEnd : Option (List ℕ) → Option (List ℕ) → Option (List ℕ) → ℕ → ℕ → Result (Unit {0}) Exit → Type 0
  LinesEnd left mid out_now n most (Ok done) = (n < most) × IsAtEnd left × Keeps mid out_now
  LinesEnd left mid out_now n most (Err Most) = (n ≡ most) × Keeps mid out_now
  LinesEnd left mid out_now n most (Err (Refused (IoError e))) = ⊥
  LinesEnd left mid out_now n most (Err (Refused error)) = (n < most) × Shows (IsFaultOf IsSaid left) error × Keeps mid out_now
  LinesEnd left mid out_now n most (Err (Io (IoError e))) = (n < most) × (Keeps mid out_now ⊎ TearsNext left mid out_now n)
  LinesEnd left mid out_now n most (Err Memory) = (n < most) × Keeps mid out_now
  LinesEnd left mid out_now n most (Err exit) = ⊥

-- InputEnd: nothing was read after the last line at the end of the stream or at the most lines. If the next item was refused, no more
-- was read than it needs. A failed read or write leaves any part.
abbrev pub InputEnd : {V : Type 0} → (List ℕ → Verdict V → Type 0) → Option (List ℕ) → Option (List ℕ) → Result (Unit {0}) Exit → Type 0
InputEnd IsSaid left now (Ok done) = Keeps left now
InputEnd IsSaid left now (Err Most) = Keeps left now
InputEnd IsSaid left now (Err (Refused error)) = TakesAsked IsSaid left now
InputEnd IsSaid left now (Err exit) = ⊤

-- The input that a list reads, and the output that it writes.
pub record Streams : Type 0 where
  pub input : Option (List ℕ)
  pub output : Option (List ℕ)

-- This input and this output.
abbrev pub streams : Option (List ℕ) → Option (List ℕ) → Streams
streams input output = record { input = input; output = output }

module _ {S V : Type 0} (IsLine : ℕ → V → List ℕ → Type 0) (f : Format S V) (q : S) where
  -- Listing: n items were read, they lead to this state, and their lines were written.
  pub record Listing (here : S) (before now out_before out_now : Option (List ℕ)) (n : ℕ) : Type 0 where
    pub items : List V
    pub count : length items ≡ n
    pub leads : state_after f q items ≡ here
    pub took : TakesTexts f q items before now
    pub lines : List ℕ
    pub are_lines : AreLines IsLine 1 items lines
    pub out : Appends out_before out_now lines

  -- ListsItems: items were read and listed until the run ended.
  pub record ListsItems (old new : Streams) (most : ℕ) (result : Result (Unit {0}) Exit) : Type 0 where
    pub n : ℕ
    pub here : S
    pub left : Option (List ℕ)
    pub mid : Option (List ℕ)
    pub so_far : Listing here old.input left old.output mid n
    pub ends : LinesEnd IsLine (f.says here) left mid new.output n most result
    pub input : InputEnd (f.says here) left new.input result

module _ {O S V : Type 0} (kind : Kind O S V) where
  -- Listed: s is an opening, a front of items and a rest, and the lines of the opening and of the first items were written.
  pub record Listed (s : List ℕ) (before : Option (List ℕ)) : Type 0 where
    pub opening : O
    pub after : List ℕ
    pub opens : kind.opens s (whole opening after)
    pub items : List V
    pub more : List V
    pub left : List ℕ
    pub front : Front (kind.format opening) (kind.start opening) (items ++ more) after left
    pub lines : List ℕ
    pub are_lines : AreLines kind.IsLine 1 items lines
    pub mid : Option (List ℕ)
    pub out : Appends before mid (kind.heading opening ++ lines)

  -- TearsHeading: s is an opening and more, and a write failed within the opening's line.
  pub record TearsHeading (s : List ℕ) (before after : Option (List ℕ)) : Type 0 where
    pub opening : O
    pub rest : List ℕ
    pub opens : kind.opens s (whole opening rest)
    pub out : AppendsPart before after (kind.heading opening)

  -- EndsClean: all items were listed, they are fewer than `most`, and nothing follows them in the capture or is left in the input.
  pub record EndsClean (most : ℕ) (now after : Option (List ℕ)) {s : List ℕ} {before : Option (List ℕ)} (listed : Listed s before) : Type 0 where
    pub fewer : length listed.items < most
    pub all : listed.more ≡ []
    pub nothing : listed.left ≡ []
    pub input : IsAtEnd now
    pub out : Keeps listed.mid after

  -- EndsFull: exactly `most` items were listed, and exactly their bytes were read from the input.
  pub record EndsFull (most : ℕ) (now after : Option (List ℕ)) {s : List ℕ} {before : Option (List ℕ)} (listed : Listed s before) : Type 0 where
    pub count : length listed.items ≡ most
    pub took : TakesTexts (kind.format listed.opening) (kind.start listed.opening) listed.items (Some listed.after) now
    pub out : Keeps listed.mid after

  -- ListEndsRefused: all items, fewer than `most`, were listed. The rest shows this error, and no more of it was read than the item needs.
  pub record ListEndsRefused (most : ℕ) (error : PcapError) (now after : Option (List ℕ)) {s : List ℕ} {before : Option (List ℕ)} (listed : Listed s before) : Type 0 where
    pub fewer : length listed.items < most
    pub all : listed.more ≡ []
    pub refused : Shows (IsFaultOf ((kind.format listed.opening).says (state_after (kind.format listed.opening) (kind.start listed.opening) listed.items)) (Some listed.left)) error
    pub asked : TakesAsked ((kind.format listed.opening).says (state_after (kind.format listed.opening) (kind.start listed.opening) listed.items)) (Some listed.left) now
    pub out : Keeps listed.mid after

  -- TearsLine: a write failed within the line of the next item.
  pub record TearsLine (after : Option (List ℕ)) {s : List ℕ} {before : Option (List ℕ)} (listed : Listed s before) : Type 0 where
    pub next : V
    pub others : List V
    pub more : listed.more ≡ next ∷ others
    pub line : List ℕ
    pub is_line : kind.IsLine (suc (length listed.items)) next line
    pub out : AppendsPart listed.mid after line

  -- ListsUntil: what a run that ended with this exit has read and written of the capture s. An `Io` doesn't say which stream failed.
  abbrev pub ListsUntil : ℕ → List ℕ → Option (List ℕ) → Option (List ℕ) → Option (List ℕ) → Exit → Type 0
  ListsUntil most s now before after Done = (listed : Listed s before) × EndsClean most now after listed
  ListsUntil most s now before after Most = (listed : Listed s before) × EndsFull most now after listed
  ListsUntil most s now before after (Refused error) =
      (Shows (IsFaultOf kind.opens (Some s)) error × TakesAsked kind.opens (Some s) now × Keeps before after)
      ⊎ ((listed : Listed s before) × ListEndsRefused most error now after listed)
  ListsUntil most s now before after (Io error) =
      Keeps before after
      ⊎ TearsHeading s before after
      ⊎ ((listed : Listed s before) × (length listed.items < most) × (Keeps listed.mid after ⊎ TearsLine after listed))
  ListsUntil most s now before after Memory =
      (kind.grows × Keeps before after) ⊎ ((listed : Listed s before) × (length listed.items < most) × Keeps listed.mid after)
  ListsUntil most s now before after Usage = ⊥

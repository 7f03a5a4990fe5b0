-- This file defines what is written for items that are read leniently, one after another.
use Rattle.std.specs.Prelude.{◌≡◌, ◌+◌, ⊤, ℕ, List, [], ◌∷◌, length, map, count_by, sum_by, Bool, true, Option, Result, Ok, Err}
use Rattle.std.specs.List.{flat_map}
use Rattle.std.specs.Io.KnownBytes.{Appends}
use Rattle.pcap_core.specs.declared.errors.PcapError.{PcapError}
use Rattle.pcap_items.specs.Format.{Format, state_after}
use Rattle.pcap_items.specs.Reading.{Takes}
use Rattle.pcap_items.specs.Takes.{TakesTexts, TakesItems}
use Rattle.pcap_program.specs.declared.exit.Exit.{Exit}
use Rattle.pcap_program.specs.Lines.{WritesLine}
use Rattle.pcapfile_as_is.specs.declared.counted.Counted.{Counted}
use Rattle.pcapfile_as_is.specs.declared.counted.Told.{Told}
use Rattle.pcapfile_as_is.specs.Counts.{counted, one_if}

-- The facts about an item with a number.
abbrev pub numbered : Bool → Told
numbered flawed = record { has_number = true; has_flaw = flawed }

-- TellsBy: an item has a number, and these functions give whether it has a flaw, and its text.
abbrev pub TellsBy : {V : Type 0} → (V → Bool) → (ℕ → ℕ → V → List ℕ) → ℕ → ℕ → V → Told → List ℕ → Type 0
TellsBy flawed text number place item told bytes = (told ≡ numbered (flawed item)) × (bytes ≡ text number place item)

-- WritesTold: a call writes the text of an item as a line is written, and returns the facts about the item.
abbrev pub WritesTold : (Told → List ℕ → Type 0) → Option (List ℕ) → Option (List ℕ) → Result Told Exit → Type 0
WritesTold IsTold before after (Ok told) = WritesLine (IsTold told) before after (Ok tt)
WritesTold IsTold before after (Err exit) = (told : Told) × WritesLine (IsTold told) before after (Err exit)

-- A row is an item, the facts about it, and its text.
pub record Row (V : Type 0) : Type 0 where
  pub item : V
  pub told : Told
  pub text : List ℕ

-- The item of a row.
abbrev pub item_in : {V : Type 0} → Row V → V
item_in row = row.item

-- The text of a row.
abbrev pub text_in : {V : Type 0} → Row V → List ℕ
text_in row = row.text

-- has_number row: the item has a number.
abbrev pub has_number : {V : Type 0} → Row V → Bool
has_number row = row.told.has_number

-- has_flaw row: the item has a flaw.
abbrev pub has_flaw : {V : Type 0} → Row V → Bool
has_flaw row = row.told.has_flaw

-- The number of bytes of the item.
abbrev pub size_in : {V : Type 0} → (V → ℕ) → Row V → ℕ
size_in size row = size row.item

-- AreTold: these are the facts and texts of items, where the first item with a number has this one, and this many bytes precede them.
abbrev pub AreTold : {V : Type 0} → (V → ℕ) → (ℕ → ℕ → V → Told → List ℕ → Type 0) → ℕ → ℕ → List (Row V) → Type 0
AreTold size IsTold number place [] = ⊤
AreTold size IsTold number place (row ∷ rows) =
    IsTold (counted number) (counted place) row.item row.told row.text × AreTold size IsTold (number + one_if row.told.has_number) (place + size row.item) rows

-- Items of a format from a state on, each of this size, and what is written for each, given its number and its place.
module _ {S V : Type 0} (f : Format S V) (q : S) (size : V → ℕ) (IsTold : ℕ → ℕ → V → Told → List ℕ → Type 0) where
  -- Counts: items with numbers, items with flaws and all bytes were added to what was counted before.
  pub record Counts (old new : Counted) (rows : List (Row V)) : Type 0 where
    pub items_are : new.items ≡ counted (old.items + count_by has_number rows)
    pub flawed_are : new.flawed ≡ counted (old.flawed + count_by has_flaw rows)
    pub bytes_are : new.bytes ≡ counted (old.bytes + sum_by (size_in size) rows)

  -- Telling: exactly n items were read, they lead to this state, they were counted, and their texts were written.
  pub record Telling (reached : S) (before left out_before out_now : Option (List ℕ)) (old new : Counted) (n : ℕ) : Type 0 where
    pub rows : List (Row V)
    pub count : length rows ≡ n
    pub leads : state_after f q (map item_in rows) ≡ reached
    pub took : TakesTexts f q (map item_in rows) before left
    pub long : length took.bytes ≡ sum_by (size_in size) rows
    pub told : AreTold size IsTold (old.items + 1) old.bytes rows
    pub counts : Counts old new rows
    pub out : Appends out_before out_now (flat_map text_in rows)

-- What is told of items: their format, the size of each, and what is written for each, given its number and its place.
pub record ToldBy (S V : Type 0) : Type 1 where
  pub format : Format S V
  pub size : V → ℕ
  pub IsTold : ℕ → ℕ → V → Told → List ℕ → Type 0

-- What is told of items of this format, of this size.
abbrev pub told_by : {S V : Type 0} → Format S V → (V → ℕ) → (ℕ → ℕ → V → Told → List ℕ → Type 0) → ToldBy S V
told_by format size IsTold = record { format = format; size = size; IsTold = IsTold }

-- What a run over items changes: the state of the format, the input, the output, and what is counted.
pub record Progress (S : Type 0) : Type 0 where
  pub state : S
  pub input : Option (List ℕ)
  pub output : Option (List ℕ)
  pub counted : Counted

-- A run with this state, input, output and counts.
abbrev pub progress : {S : Type 0} → S → Option (List ℕ) → Option (List ℕ) → Counted → Progress S
progress state input output counted = record { state = state; input = input; output = output; counted = counted }

-- TellsItems: items, at most `most`, were read until the run stopped. They lead to the new state and are counted, and their texts are
-- written.
pub record TellsItems {S V : Type 0} (by : ToldBy S V) (old new : Progress S) (failed : Bool) (most : ℕ) (fault : Option PcapError) : Type 0 where
  pub rows : List (Row V)
  pub run : TakesItems by.format old.state old.input new.input failed most (map item_in rows) fault
  pub leads : state_after by.format old.state (map item_in rows) ≡ new.state
  pub long : length run.took.bytes ≡ sum_by (size_in by.size) rows
  pub told : AreTold by.size by.IsTold (old.counted.items + 1) old.counted.bytes rows
  pub counts : Counts by.format old.state by.size by.IsTold old.counted new.counted rows
  pub out : Appends old.output new.output (flat_map text_in rows)

-- TellsTorn: the items read lead to the new state. All but the last are counted and their texts are written, and the last one's text ended
-- with this exit.
pub record TellsTorn {S V : Type 0} (by : ToldBy S V) (old new : Progress S) (exit : Exit) : Type 0 where
  pub rows : List (Row V)
  pub next : V
  pub told_next : Told
  pub left : Option (List ℕ)
  pub took : TakesTexts by.format old.state (map item_in rows) old.input left
  pub took_next : Takes (by.format.says (state_after by.format old.state (map item_in rows))) left new.input next
  pub leads : by.format.goes (state_after by.format old.state (map item_in rows)) next ≡ new.state
  pub told : AreTold by.size by.IsTold (old.counted.items + 1) old.counted.bytes rows
  pub counts : Counts by.format old.state by.size by.IsTold old.counted new.counted rows
  pub mid : Option (List ℕ)
  pub out : Appends old.output mid (flat_map text_in rows)
  pub torn : WritesLine (by.IsTold (counted (old.counted.items + 1 + count_by has_number rows)) (counted (old.counted.bytes + sum_by (size_in by.size) rows)) next told_next) mid new.output (Err exit)

-- Totals over several captures.
use Rattle.std.specs.Prelude.{◌≡◌, ◌<◌, ◌+◌, ◌++◌, ◌&&◌, ℕ, List, codes, None, slice_index}
use Rattle.std.specs.Fmt.{decimal}
use Rattle.serde_json.specs.Data.{Members, no_members, put}
use Rattle.pcapfile_run.specs.Passing.{counted}
use Rattle.pcapfile_info.specs.declared.captures.Information.{Information}
use Rattle.pcapfile_info.specs.declared.tally.Tally.{Tally}
use Rattle.pcapfile_info.specs.Tallies.{IsAfter, IsBefore, IsFirstWith, IsOrderWith}
use Rattle.pcapfile_shown.specs.declared.total.Total.{Total}
use Rattle.pcapfile_shown.specs.Json.{number_data, with_figures}
use Rattle.pcapfile_shown.specs.Table.{AreFigures, ending, interfaces_of, row}

-- The counts of two sets of packets together, the second ones behind the first ones. Their spread over time is left out.
pub record AreTogether (one other both : Tally) : Type 0 where
  pub packets : both.packets ≡ counted (one.packets + other.packets)
  pub stored : both.stored ≡ counted (one.stored + other.stored)
  pub original : both.original ≡ counted (one.original + other.original)
  pub earliest : IsFirstWith IsBefore one.earliest other.earliest both.earliest
  pub latest : IsFirstWith IsAfter one.latest other.latest both.latest
  pub in_order : IsOrderWith one.latest other.earliest (one.in_order && other.in_order) both.in_order
  pub sizes : (class : ℕ) → class < 10 → slice_index both.sizes class ≡ counted (slice_index one.sizes class + slice_index other.sizes class)
  pub spread : both.spread ≡ None

-- The totals have one more capture.
pub record HasAdded (told : Information) (old new : Total) : Type 0 where
  pub files : new.files ≡ counted (old.files + 1)
  pub bytes : new.bytes ≡ counted (old.bytes + told.checked.bytes)
  pub interfaces : new.interfaces ≡ counted (old.interfaces + interfaces_of told)
  pub refused : new.refused ≡ counted (old.refused + told.totals.refused)
  pub counts : AreTogether old.counts told.totals.all new.counts

-- The line is the row of the totals, with this status.
abbrev pub IsTotalRow : Total → ℕ → List ℕ → Type 0
IsTotalRow total status line =
    (figures : List ℕ) × AreFigures total.bytes total.counts figures
    × (line ≡ row (codes "total") (codes "-") figures
    (ending total.interfaces (codes "-") total.refused status (decimal total.files ++ codes " files")))

-- The members of the totals, with this status.
abbrev pub total_members : Total → ℕ → Members
total_members total status =
    with_figures total.counts
    (put (codes "refused") (number_data total.refused)
    (put (codes "bytes") (number_data total.bytes)
    (put (codes "status") (number_data status)
    (put (codes "files") (number_data total.files) no_members))))

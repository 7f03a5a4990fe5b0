-- The progress after blocks of a PcapNg capture.
use Rattle.std.specs.Prelude.{◌≡◌, ◌+◌, ◌⊎◌, List, Option, count_by}
use Rattle.pcap_core.specs.declared.errors.PcapError.{PcapError}
use Rattle.pcap_ng.specs.Blocks.{Item}
use Rattle.pcap_ng.specs.State.{State}
use Rattle.pcapfile_run.specs.Passing.{counted}
use Rattle.pcapfile_info.specs.declared.progress.Progress.{Progress}
use Rattle.pcapfile_info.specs.declared.seen.Sight.{Sight}
use Rattle.pcapfile_info.specs.Describing.{DescribesBlocks, DescribesFront, LacksMemory, is_begin}
use Rattle.pcapfile_info.specs.Totals.{TotalsAre}

-- The progress after blocks has their totals, the number of the current section, and their descriptions and comments.
pub record KeepsBlocks (first : State) (items : List Item) (sights : List Sight) (progress : Progress) : Type 0 where
  pub totals : TotalsAre 0 sights progress.totals
  pub section : progress.section ≡ counted (1 + count_by is_begin items)
  pub described : DescribesBlocks first items progress.described.items progress.comments.items

-- A run that ends with this fault, or none, has the totals, descriptions and comments of its blocks; after out of memory there may be more.
pub record EndsBlocks (fault : Option PcapError) (first : State) (items : List Item) (sights : List Sight) (progress : Progress) : Type 0 where
  pub totals : TotalsAre 0 sights progress.totals
  pub described : (LacksMemory fault × DescribesFront first items progress.described.items progress.comments.items)
      ⊎ DescribesBlocks first items progress.described.items progress.comments.items

use Rattle.std.proofs.Common.{Bool, subst, sym}
use Rattle.pcapfile_sort.specs.Blocks.{block_captures}
use Rattle.pcapfile_sort.specs.Reading.{PassesOnce}
use Rattle.pcapfile_sort.proofs.BlockRanks.{blocks_sortable}
use Rattle.pcapfile_sort.proofs.sorting.sort_blocks.Goals as goal

pub end_sort-sorted-requires : goal.end_sort-sorted-requires
end_sort-sorted-requires g c = record { lawful = blocks_sortable }

pub returns-clause-sorts : goal.returns-clause-sorts
returns-clause-sorts g c =
    let capture = g.R.Read.remaining c.args.input in
    let passes = c.read_all_blocks-ended.ensures.passes capture c.in-Ok.ensures.2 in
    c.end_sort-sorted.ensures.sorts capture (subst (λ (failed : Bool). PassesOnce block_captures tt capture failed c.read_all_blocks-ended.new.kept.entries c.read_all_blocks-ended.result) (sym c.failed-read_failed.ensures) passes)

pub returns-clause-sections : goal.returns-clause-sections
returns-clause-sections g c = λ whole. c.read_all_blocks-ended.ensures.sections (g.R.Read.remaining c.args.input) c.in-Ok.ensures.2 (c.end_sort-sorted.ensures.whole whole)

use Rattle.std.proofs.Common.{rules, ◌≡◌, w32, to_z, of_z}
use Rattle.pcapfile_c.proofs.block_cuts.pcapfile_cut_blocks_at_least.Goals as goal

pub returns-clause-told : goal.returns-clause-told
returns-clause-told c =
    let z = c.fill_cuts.result in
    let same : to_z w32 (of_z w32 z) ≡ z = search rules in
    rw (same, ← c.max-wanted.ensures) c.fill_cuts.ensures

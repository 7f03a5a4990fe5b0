use Rattle.std.proofs.Common.{rules, ◌≡◌, inl, w32, to_z, of_z}
use Rattle.pcapfile_c.proofs.any.take_any_block.Goals as goal

pub returns-clause-taken : goal.returns-clause-taken
returns-clause-taken c q shows =
    let z = c.take_packet.result in
    let same : to_z w32 (of_z w32 z) ≡ z = search rules in
    rw same (inl (c.take_packet.ensures.taken q shows))

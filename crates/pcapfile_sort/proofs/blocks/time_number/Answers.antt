use Rattle.std.proofs.Common.{◌∙◌, ◌+ℤ◌, ◌^◌, ℤ, ap, pos, rules}
use Rattle.std.specs.Int.{w64}
use Rattle.std.proofs.lemmas.Int.{to_z-of_z}
use Rattle.pcap_blocks.specs.InterfaceDescription.{interface_of}
use Rattle.pcapfile_sort.proofs.BlockRanks.{time_numbered}
use Rattle.pcapfile_sort.proofs.blocks.time_number.Goals as goal

pub returns-clause-number : goal.returns-clause-number
returns-clause-number c =
    let clock = c.clock-clock.result in
    let offset = c.biased.ensures ∙ ap (λ (z : ℤ). z +ℤ pos (2 ^ 63)) (to_z-of_z w64 clock.offset (search rules)) in
    time_numbered (interface_of c.args.interface.now) clock c.clock-clock.ensures c.args.units c.split-seconds.result.0 c.split-seconds.result.1 c.biased.result c.number_at.result c.split-seconds.ensures offset c.number_at.ensures

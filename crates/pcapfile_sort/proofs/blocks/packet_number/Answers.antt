use Rattle.std.proofs.Common.{map, sym}
use Rattle.pcap_blocks.specs.InterfaceDescription.{interface_of}
use Rattle.pcapfile_run.specs.BlockPackets.{in_block}
use Rattle.pcapfile_sort.proofs.BlockRanks.{numbered_at}
use Rattle.pcapfile_sort.proofs.blocks.packet_number.Goals as goal

pub returns-in-Some-interface_at-clause-number : goal.returns-in-Some-interface_at-clause-number
returns-in-Some-interface_at-clause-number c =
    numbered_at (map interface_of c.args.interfaces.now) (in_block c.args.packet) c.in-Some.units c.time_number.result (interface_of c.in-Some-interface_at.interface.now) c.in-Some.is (sym c.in-Some-interface_at.ensures)
    c.time_number.ensures.number

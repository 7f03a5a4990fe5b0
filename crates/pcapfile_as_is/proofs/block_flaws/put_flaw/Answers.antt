use Rattle.std.proofs.Common.{refl}
use Rattle.pcap_tolerant_blocks.specs.Flaws.{said_of}
use Rattle.pcapfile_as_is.specs.BlockLines.{said_line}
use Rattle.pcapfile_as_is.proofs.SaidLines.{none_of_line}
use Rattle.pcapfile_as_is.proofs.block_flaws.put_flaw.Goals as goal

pub returns-in-Err-clause-writes : goal.returns-in-Err-clause-writes
returns-in-Err-clause-writes g c =
    let place = c.args.place.now in
    rw c.from.ensures (said_line place (said_of c.args.flaw), refl, none_of_line place c.args.flaw (g.W.Write.contents c.args.output.now))

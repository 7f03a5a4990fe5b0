use Rattle.std.proofs.Common.{List, length}
use Rattle.pcap_core.specs.Answer.{number_in}
use Rattle.pcap_tolerant_blocks.specs.Flaws.{Said}
use Rattle.pcap_tolerant_blocks.specs.NextFlaw.{HasFlaws}
use Rattle.pcap_tolerant_blocks.specs.SoundOptions.{kind_of}
use Rattle.pcapfile_as_is.proofs.SaidLines.{PutSoFar}
use Rattle.pcapfile_as_is.proofs.block_flaws.put_flaws.Given as goal

abbrev pub invariant-loop-next : goal.invariant-loop-next
invariant-loop-next g l =
    let order = number_in l.fn.order in
    let kind = kind_of l.fn.of in
    (flaws : List Said) → HasFlaws order kind flaws l.fn.options → PutSoFar order kind l.fn.place flaws l.left l.has_flaw (g.W.Write.contents l.fn.output) (g.W.Write.contents l.output)

abbrev pub decreases-loop-next : goal.decreases-loop-next
decreases-loop-next g l = length l.left

use Rattle.std.proofs.Common.{rules}
use Rattle.pcapfile_selected.proofs.PutPackets.{leaves_packet, puts_packet}
use Rattle.pcapfile_selected.proofs.blocks.selected.Choosing.put.Goals as goal

pub returns-then-branch : goal.returns-then-branch
returns-then-branch g c = puts_packet _ _ _ _ _ _ _ _ _ _ _ _ (search rules) (rw c.if-branch.true at c.in_ok-choose.ensures.chooses)
    c.put_changed-then-branch.ensures.puts c.put_changed-then-branch.ensures.keeps c.put_changed-then-branch.ensures.counts

pub returns : goal.returns
returns g c = leaves_packet _ _ _ _ _ _ _ _ _ (search rules) (rw c.if-branch.false at c.in_ok-choose.ensures.chooses) c.pass_text.ensures

use Rattle.std.proofs.Common.{rules}
use Rattle.pcapfile_cut.specs.BlockCuts.{lent_by, place_of}
use Rattle.pcapfile_selected.proofs.Spanning.{puts_one}
use Rattle.pcapfile_selected.proofs.blocks.BlockSource.put_taken.Goals as goal

pub returns : goal.returns
returns g c =
    let a = place_of g.R.Read.remaining c.args.self.now.blocks in
    let m = place_of g.R.Read.remaining c.peek.new.self in
    let now = place_of g.R.Read.remaining c.pass.new.self in
    let y = lent_by c.peek.new.self c.in-Some.header in
    let peeked = rw c.in-Some.is at c.in_ok-header.ensures in
    puts_one _ _ a m now y (lent_by c.pass.new.self) c.in_ok-pass.field-0 peeked.0 peeked.1 c.in_ok-pass.ensures
    (record { takes = rw c.if-not-branch.false at c.in_ok-takes.ensures.takes; went = search rules; counts = search rules })

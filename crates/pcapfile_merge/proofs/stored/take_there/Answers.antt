use Rattle.std.proofs.Common.{Ok}
use Rattle.pcapfile_merge.specs.BufferedBlocks.{interfaces_of, progress_of}
use Rattle.pcapfile_merge.specs.Keeping.{of_section}
use Rattle.pcapfile_merge.proofs.ShownTaken.{shown_taken, told_there}
use Rattle.pcapfile_merge.proofs.stored.take_there.Goals as goal

pub returns-clause-there : goal.returns-clause-there
returns-clause-there g c =
    let mid = c.let_go.new.self in
    let tells = told_there _ (of_section mid.kept c.args.numbers.now) _ (interfaces_of mid) c.said_there.result c.in_ok-packet.packet (Ok c.in-Ok.pending) c.numbers_behind-numbers.ensures c.interfaces.ensures c.said_there.ensures c.in-Ok.ensures.tells in
    shown_taken g.R.Read.remaining c.args.numbers.now (progress_of g.R.Read.remaining c.args.blocks.now) mid.shown mid.reader mid.kept c.in_ok-packet.packet c.in_ok-packet.used c.let_go.ensures.nothing c.let_go.ensures.source c.requires c.in_ok-packet.ensures c.in-Ok.pending mid.made c.let_go.ensures.unmade tells

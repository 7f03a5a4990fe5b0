use Rattle.std.proofs.Common.{inr}
use Rattle.std.proofs.lemmas.Result.{err_from_is_err_and}
use Rattle.pcap_blocks.specs.ParsedBlock.{body_of}
use Rattle.pcap_ng.specs.Frames.{framed_of}
use Rattle.pcapfile_merge.specs.TakingBlocks.{body_refused}
use Rattle.pcapfile_merge.proofs.Bodies.{described_or_ends}
use Rattle.pcapfile_merge.proofs.stored.pending_in_interface.Goals as goal

pub returns-in_err-parsed-clause-tells : goal.returns-in_err-parsed-clause-tells
returns-in_err-parsed-clause-tells c = λ numbers interfaces.
    let p = err_from_is_err_and c.from_residual.result c.from_residual.ensures.1 in
    rw (p.1, p.2) (body_refused (inr c.requires) c.in_err-parsed.ensures.tells)

pub returns-clause-tells : goal.returns-clause-tells
returns-clause-tells c = λ numbers interfaces.
    let says = c.in_ok-parsed.ensures.tells in
    described_or_ends numbers interfaces (framed_of c.args.block.now) (body_of c.in_ok-parsed.parsed) says.0 c.describe.new.self c.describe.result c.requires says.1 c.describe.ensures.describes

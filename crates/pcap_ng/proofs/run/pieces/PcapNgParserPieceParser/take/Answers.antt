use Rattle.std.proofs.Common.{refl}
use Rattle.std.proofs.lemmas.Result.{err_from_is_err_and}
use Rattle.pcap_items.proofs.Pieces.{front_refused}
use Rattle.pcap_ng.specs.Blocks.{Item, MayGrow, block_format, item_of}
use Rattle.pcap_ng.specs.Frames.{framed_of}
use Rattle.pcap_ng.specs.Parser.{state_of}
use Rattle.pcap_ng.proofs.run.pieces.PcapNgParserPieceParser.take.Goals as goal

pub returns-in_err-after-clause-takes : goal.returns-in_err-after-clause-takes
unfolding block_format
returns-in_err-after-clause-takes c =
    let q = state_of c.args.self.now in
    let next = state_of c.next_block.new.self in
    let held = c.args.held.now in
    let e = err_from_is_err_and c.from_residual.result c.from_residual.ensures.1 in
    rw (e.1, e.2) (front_refused block_format (λ (item : Item). item.block) framed_of q next held (MayGrow q held) c.in_err-after.ensures.unchanged c.in_err-after.field-0.0 c.in_err-after.ensures.tells)

pub returns-clause-takes : goal.returns-clause-takes
unfolding block_format
returns-clause-takes c =
    record { value = item_of (state_of c.next_block.new.self) c.in_ok-after.block; text = c.in_ok-after.ensures.tells; goes = refl; part_is = c.in_ok-into_owned.ensures.same }

use Rattle.std.proofs.Common.{ap, refl}
use Rattle.std.proofs.lemmas.Result.{err_from_is_err_and}
use Rattle.pcap_items.proofs.Pieces.{front_refused}
use Rattle.pcap_tolerant_captures.specs.Blocks.{MayGrow, as_is_format, item_of}
use Rattle.pcap_tolerant_captures.specs.Pieces.{Kept, kept_format, kept_of}
use Rattle.pcap_tolerant_captures.specs.Run.{seen_in, seen_of}
use Rattle.pcap_tolerant_captures.specs.State.{State, state_of}
use Rattle.pcap_tolerant_captures.proofs.pieces.OpenedAsIsPieceParser.take.Goals as goal

kept_at : Kept → State → Kept
kept_at kept state = record { state = state; first = kept.first; owned = kept.owned }

pub returns-in_err-after-clause-takes : goal.returns-in_err-after-clause-takes
unfolding as_is_format kept_at
returns-in_err-after-clause-takes c =
    let q = kept_of c.args.self.now in
    let next = kept_at q (state_of c.next_block_as_is.new.self) in
    let held = c.args.held.now in
    let e = err_from_is_err_and c.from_residual.result c.from_residual.ensures.1 in
    rw (e.1, e.2) (front_refused kept_format seen_in seen_of q next held (MayGrow q.state held) (ap (kept_at q) c.in_err-after.ensures.unchanged) c.in_err-after.field-0.0 c.in_err-after.ensures.tells)

pub returns-clause-takes : goal.returns-clause-takes
unfolding as_is_format
returns-clause-takes c =
    record { value = item_of (state_of c.next_block_as_is.new.self) c.in_ok-after.block; text = c.in_ok-after.ensures.tells; goes = refl; part_is = c.in_ok-into_owned.ensures.same }

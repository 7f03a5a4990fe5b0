use Rattle.std.proofs.Common.{◌≡◌, ◌∙◌, ap, Bool, true, Err}
use Rattle.std.proofs.lemmas.Result.{err_from_is_err_and}
use Rattle.pcap_items.proofs.Pieces.{tells_grown}
use Rattle.pcap_tolerant_captures.specs.Blocks.{MayGrow, opened_of}
use Rattle.pcap_tolerant_captures.specs.Pieces.{FirstSays, Kept, kept_of}
use Rattle.pcap_tolerant_captures.specs.Run.{Seen}
use Rattle.pcap_tolerant_captures.specs.State.{State, opening}
use Rattle.pcap_tolerant_captures.proofs.FedBlocks.{owned_true}
use Rattle.pcap_tolerant_captures.proofs.pieces.OpenedAsIsPieceParser.open.Goals as goal

kept_with : State → Seen → Bool → Kept
kept_with state first owned = record { state = state; first = first; owned = owned }

kept_same : (state : State) (a b : Seen) (owned : Bool) → a ≡ b → owned ≡ true → kept_with state a owned ≡ kept_with state b true
kept_same state a b owned same is = ap (λ (seen : Seen). kept_with state seen owned) same ∙ ap (kept_with state b) is

pub returns-in_err-after : goal.returns-in_err-after
returns-in_err-after c =
    let held = c.args.held.now in
    let e = err_from_is_err_and c.from_residual.result c.from_residual.ensures.1 in
    rw (e.1, e.2) (tells_grown (FirstSays held) kept_of (MayGrow opening held) (Err c.in_err-after.field-0.0) c.in_err-after.ensures.tells)

pub returns : goal.returns
unfolding kept_with
returns c =
    let opened = c.in_ok-after.opened in
    let first = c.in_ok-first.ensures in
    (opened_of opened, kept_same (kept_of opened).state _ _ _ first.same (owned_true _ first.owned), c.in_ok-after.ensures.tells)

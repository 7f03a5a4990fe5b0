use Rattle.std.proofs.Common.{◌≡◌, length, take, ap, arith, refl}
use Rattle.std.specs.Borrow.{Bor}
use Rattle.std.proofs.Common.{ℕ, List, []}
use Rattle.std.proofs.lemmas.List.{take_all}
use Rattle.std.proofs.lemmas.List.Folds.{length-flat_map-take}
use Rattle.pcap_items.specs.Pieces.{joined_pieces}
use Rattle.pcap_items.proofs.run.pieces.pieces_fit.Goals as goal

nothing : Bor (List ℕ)
nothing = record { ref_ptr = (0, 0); now = [] }

pub returns-in-None : goal.returns-in-None
unfolding nothing
returns-in-None c =
    let pieces = c.args.pieces.now in
    let more = length-flat_map-take (λ (piece : Bor (List ℕ)). piece.now) pieces c.loop-piece.piece-index nothing c.loop-piece-test.true in
    (λ e. absurd cc, λ fits. absurd (omega (arith, more, fits, c.loop-piece.invariant.total, c.in-None.ensures)))

pub returns : goal.returns
returns c =
    let pieces = c.args.pieces.now in
    let all : take c.loop-piece.piece-index pieces ≡ pieces = take_all c.loop-piece.piece-index pieces c.loop-piece-test.false in
    (λ e. omega (arith, c.loop-piece.invariant.total, c.loop-piece.invariant.fits, ap (λ (l : List (Bor (List ℕ))). length (joined_pieces l)) all), λ fits. refl)

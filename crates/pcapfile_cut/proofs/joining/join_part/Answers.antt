use Rattle.std.proofs.Common.{◌≡◌, sym, true, false}
use Rattle.std.proofs.KnownBytes.{Keeps-refl}
use Rattle.pcapfile_cut.specs.Openings.{bytes_of}
use Rattle.pcapfile_cut.proofs.joining.join_part.Goals as goal

pub returns-then-not-is_same : goal.returns-then-not-is_same
returns-then-not-is_same g c =
    let other : bytes_of c.in-Ok.opening ≡ bytes_of c.args.first.now → ⊥ = λ same.
    let yes : c.is_same.result ≡ true = c.is_same.ensures.1 (sym same) in
    let no : c.is_same.result ≡ false = c.if-not-is_same.true in
    absurd cc in
    ((c.in-Ok.opening, c.in-Ok.ensures.bytes.1, other), Keeps-refl _)

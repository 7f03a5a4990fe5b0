use Rattle.std.proofs.Common.{refl}
use Rattle.std.proofs.lemmas.Result.{err_from_is_err_and}
use Rattle.pcap_items.proofs.Pieces.{front_refused}
use Rattle.pcap_tolerant.specs.AsIs.{as_it_is, as_is_format}
use Rattle.pcap_tolerant.specs.Pieces.{owned_as_is}
use Rattle.pcap_tolerant.specs.Run.{any_as_is, setting_of}
use Rattle.pcap_tolerant.proofs.pieces.ParserAsIsPieceParser.take.Goals as goal

pub returns-in_err-after-clause-takes : goal.returns-in_err-after-clause-takes
unfolding as_is_format
returns-in_err-after-clause-takes c =
    let q = setting_of c.args.self.now in
    let e = err_from_is_err_and c.from_residual.result c.from_residual.ensures.1 in
    rw (e.1, e.2) (front_refused any_as_is (λ packet. packet) owned_as_is q q c.args.held.now ⊥ refl c.in_err-after.field-0.0 c.in_err-after.ensures.tells)

pub returns-clause-takes : goal.returns-clause-takes
unfolding as_is_format
returns-clause-takes c = record { value = as_it_is c.in_ok-after.packet; text = c.in_ok-after.ensures.tells; goes = refl; part_is = c.in_ok-to_owned.ensures.packet }

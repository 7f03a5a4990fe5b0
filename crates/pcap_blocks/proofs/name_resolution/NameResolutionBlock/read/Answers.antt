use Rattle.std.proofs.lemmas.Result.{err_from_is_err_and}
use Rattle.pcap_blocks.specs.NameResolution.{with_option}
use Rattle.pcap_blocks.proofs.Bodies.{resolution_options}
use Rattle.pcap_options.proofs.Refusals.{denies_more}
use Rattle.pcap_blocks.proofs.name_resolution.NameResolutionBlock.read.Goals as goal

pub returns-in_err-rest-clause-tells : goal.returns-in_err-rest-clause-tells
returns-in_err-rest-clause-tells g c =
    let p = err_from_is_err_and c.from_residual-in_err-rest.result c.from_residual-in_err-rest.ensures.1 in
    rw (p.1, p.2) (denies_more c.in_err-rest.field-0.0 (with_option _ _ c.in_ok-after.ensures.tells) (resolution_options _ _ _ _ c.in_ok-after.ensures.tells) c.in_err-rest.ensures.tells)

pub returns-clause-tells : goal.returns-clause-tells
returns-clause-tells g c = record { after = _; records_are = c.in_ok-after.ensures.tells; options_are = c.in_ok-rest.ensures.tells }

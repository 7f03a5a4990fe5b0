use Rattle.std.proofs.lemmas.Result.{err_from_is_err_and}
use Rattle.pcap_options.specs.Names.{unended}
use Rattle.pcap_options.proofs.Refusals.{denies_faults}
use Rattle.pcap_options.proofs.Naming.{name_parts, name_string_fails}
use Rattle.pcap_options.proofs.names.name_from_slice.Goals as goal

pub returns-in_default : goal.returns-in_default
returns-in_default c = record { tells = unended c.in_default.ensures }

pub returns-in_err-string : goal.returns-in_err-string
returns-in_err-string c =
    let p = err_from_is_err_and c.from_residual.result c.from_residual.ensures.1 in
    let z = c.in-Some.ensures in
    let fault = rw c.split_at.ensures.front at c.in_err-string.ensures.tells in
    record { tells = rw (p.1, p.2) (denies_faults _ c.in_err-string.field-0.0 (name_string_fails _ _ _ (name_parts _ _ z.0 z.1) z.2) fault) }

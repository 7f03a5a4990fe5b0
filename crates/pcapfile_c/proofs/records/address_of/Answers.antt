use Rattle.std.proofs.Common.{arith, refl, ◌≤◌, ◌+◌, length}
use Rattle.std.proofs.lemmas.Result.{err_from_is_err_and}
use Rattle.pcap_core.specs.Faults.{Invalid}
use Rattle.pcap_core.proofs.Refusals.{named_shows, shows_more}
use Rattle.pcap_options.specs.Record.{AddressFault, short}
use Rattle.pcap_options.proofs.Naming.{split_parts, address_fails}
use Rattle.pcapfile_c.proofs.TakenOptions.{address_found}
use Rattle.pcapfile_c.proofs.records.address_of.Goals as goal

pub returns-then-value-width : goal.returns-then-value-width
returns-then-value-width c =
    let fault : AddressFault c.args.width c.args.too_short c.args.value.now (Invalid c.args.too_short) = short (omega arith) in
    named_shows (AddressFault c.args.width c.args.too_short c.args.value.now) c.args.too_short c.from.result fault c.from.ensures

pub returns-in_err-read_names : goal.returns-in_err-read_names
returns-in_err-read_names c =
    let v = c.args.value.now in
    let long : c.args.width + 2 ≤ length v = omega arith in
    let parts = split_parts c.args.width v c.split_at.result.0.now c.split_at.result.1.now c.split_at.ensures.front c.split_at.ensures.back in
    let p = err_from_is_err_and c.from_residual.result c.from_residual.ensures.1 in
    rw (p.1, p.2) (shows_more (address_fails c.args.width c.args.too_short v c.split_at.result.0.now c.split_at.result.1.now long parts c.split_at.ensures.front_len) c.in_err-read_names.field-0.0 c.in_err-read_names.ensures)

pub returns : goal.returns
returns c =
    let long : c.args.width + 2 ≤ length c.args.value.now = omega arith in
    address_found c.args.type_ c.args.width c.args.value.now c.split_at.result.0.now c.split_at.result.1.now _ long c.split_at.ensures.front c.split_at.ensures.back c.split_at.ensures.front_len refl refl refl c.in_ok-read_names.ensures

use Rattle.std.proofs.Common.{arith, refl}
use Rattle.std.proofs.lemmas.Result.{err_from_is_err_and}
use Rattle.pcap_file.specs.Converted.{interface_for, opening_blocks}
use Rattle.pcap_blocks.specs.ParsedBlock.{InterfaceBody}
use Rattle.pcap_file.proofs.Converting.{block_refused}
use Rattle.pcap_file.proofs.run.converting.opening_text.Goals as goal

pub returns-in_err-encode-2 : goal.returns-in_err-encode-2
returns-in_err-encode-2 c =
    let p = err_from_is_err_and c.from_residual-in_err-encode-2.result c.from_residual-in_err-encode-2.ensures.1 in
    let interface = InterfaceBody (interface_for c.args.header.now) in
    rw p.1 (block_refused (opening_blocks c.args.header.now) interface (λ flaw stands. (1, interface, omega arith, refl, stands)) c.in_err-encode-2.field-0.0 p.0 (rw c.in_ok-vec.ensures.items at c.in_err-encode-2.ensures) p.2)

use Rattle.std.proofs.Common.{◌∙◌, ap, map, sym, Ok, Err, inl}
use Rattle.std.proofs.lemmas.Result.{err_from_is_err_and}
use Rattle.pcap_core.specs.Answer.{number_in}
use Rattle.pcap_blocks.specs.EnhancedPacket.{enhanced_of}
use Rattle.pcap_blocks.specs.InterfaceDescription.{interface_of}
use Rattle.pcap_blocks.specs.ParsedBlock.{body_of}
use Rattle.pcap_ng.specs.Frames.{framed_of}
use Rattle.pcapfile_run.specs.BlockPackets.{HoldsPacket}
use Rattle.pcapfile_merge.specs.TakingBlocks.{body_refused, enhanced_in, packet_unfit, packet_unlisted}
use Rattle.pcapfile_merge.proofs.Bodies.{made_or_ends, none_plain, nothing_made, packet_there, plain_given, renewed_said}
use Rattle.pcapfile_merge.proofs.stored.pending_in_block.Goals as goal

pub returns-in_err-parsed-clause-tells : goal.returns-in_err-parsed-clause-tells
returns-in_err-parsed-clause-tells c =
    let p = err_from_is_err_and c.from_residual.result c.from_residual.ensures.1 in
    rw (p.1, p.2) (body_refused (inl c.requires.packet) c.in_err-parsed.ensures.tells)

pub returns-in_err-body-clause-tells : goal.returns-in_err-body-clause-tells
returns-in_err-body-clause-tells c =
    let p = err_from_is_err_and c.from_residual-in_err-body.result c.from_residual-in_err-body.ensures.1 in
    let block = framed_of c.args.block.now in
    let interfaces = map interface_of c.args.interfaces.now in
    let body = body_of c.in_ok-parsed.parsed in
    let says = c.in_ok-parsed.ensures.tells in
    let there = packet_there (number_in block.endianness) block.type_ interfaces block.body says.0 body c.requires.packet says.1 in
    let holds : HoldsPacket interfaces block there.0 = record { body = body; rest = says.0; says = says.1; packet_is = there.1 } in
    let why = c.in_err-body.ensures.memory in
    rw (p.1, p.2) (packet_unlisted there.0 holds why.1 why.0)

pub returns-in_err-pending-clause-tells : goal.returns-in_err-pending-clause-tells
returns-in_err-pending-clause-tells c =
    let p = err_from_is_err_and c.from_residual-in_err-pending.result c.from_residual-in_err-pending.ensures.1 in
    let block = framed_of c.args.block.now in
    let interfaces = map interface_of c.args.interfaces.now in
    let body = body_of c.in_ok-parsed.parsed in
    let says = c.in_ok-parsed.ensures.tells in
    let there = packet_there (number_in block.endianness) block.type_ interfaces block.body says.0 body c.requires.packet says.1 in
    let holds : HoldsPacket interfaces block there.0 = record { body = body; rest = says.0; says = says.1; packet_is = there.1 } in
    let made = c.in_ok-body.ensures in
    let tells = renewed_said c.args.numbers.now interfaces body (body_of c.in_ok-body.body) c.in_ok-body.left_out there.0 (Err c.in_err-pending.field-0.0) made.body made.count there.1 c.in_err-pending.ensures.tells in
    rw (p.1, p.2) (packet_unfit there.0 holds tells)

pub returns-in-None-clause-tells : goal.returns-in-None-clause-tells
returns-in-None-clause-tells c =
    let block = framed_of c.args.block.now in
    let interfaces = map interface_of c.args.interfaces.now in
    let body = body_of c.in_ok-parsed.parsed in
    let says = c.in_ok-parsed.ensures.tells in
    let there = packet_there (number_in block.endianness) block.type_ interfaces block.body says.0 body c.requires.packet says.1 in
    let holds : HoldsPacket interfaces block there.0 = record { body = body; rest = says.0; says = says.1; packet_is = there.1 } in
    let made = c.in_ok-body.ensures in
    let pending = c.in_ok-pending.pending in
    let said = renewed_said c.args.numbers.now interfaces body (body_of c.in_ok-body.body) c.in_ok-body.left_out there.0 (Ok pending) made.body made.count there.1 c.in_ok-pending.ensures.tells in
    plain_given c.args.numbers.now interfaces block there.0 c.requires.packet holds pending _ (nothing_made c.args.made.now block.body c.requires.unmade) said
    (none_plain there.0 _ (ap enhanced_in (sym made.body) ∙ sym c.in-None.ensures) _ _ _)

pub returns-in-Some-clause-tells : goal.returns-in-Some-clause-tells
returns-in-Some-clause-tells c =
    let block = framed_of c.args.block.now in
    let interfaces = map interface_of c.args.interfaces.now in
    let body = body_of c.in_ok-parsed.parsed in
    let says = c.in_ok-parsed.ensures.tells in
    let there = packet_there (number_in block.endianness) block.type_ interfaces block.body says.0 body c.requires.packet says.1 in
    let holds : HoldsPacket interfaces block there.0 = record { body = body; rest = says.0; says = says.1; packet_is = there.1 } in
    let made = c.in_ok-body.ensures in
    let pending = c.in_ok-pending.pending in
    let said = renewed_said c.args.numbers.now interfaces body (body_of c.in_ok-body.body) c.in_ok-body.left_out there.0 (Ok pending) made.body made.count there.1 c.in_ok-pending.ensures.tells in
    made_or_ends c.args.numbers.now interfaces block there.0 c.requires.packet holds c.endianness.result pending c.put.new.self (enhanced_of c.in-Some.packet) c.put.result c.endianness.ensures said
    (ap enhanced_in (sym made.body) ∙ sym c.in-Some.ensures) c.put.ensures.makes

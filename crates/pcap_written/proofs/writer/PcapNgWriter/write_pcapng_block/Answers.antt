use Rattle.std.proofs.Common.{refl, rules, subst}
use Rattle.std.proofs.lemmas.Result.{err_from_is_err_and}
use Rattle.pcap_written.specs.declared.block.BlockHead.{BlockHead}
use Rattle.pcap_written.specs.Writing.{IsPlaced, place_of}
use Rattle.pcap_written.proofs.Puts.{not_put}
use Rattle.pcap_written.proofs.writer.PcapNgWriter.write_pcapng_block.Goals as goal

pub returns-in_err-encode : goal.returns-in_err-encode
returns-in_err-encode g c =
    let p = err_from_is_err_and c.from_residual.result c.from_residual.ensures.1 in
    rw p.1 (not_put g.W.Write.contents c.args.self.now _ (g.B.PcapNgBlock.sees c.args.block.now) c.in-Ok.place.endianness c.if-self.false (record { good = c.if-self.false; place = refl; out = search rules }) (subst (λ (head : BlockHead). IsPlaced (place_of c.args.self.now) head c.in-Ok.place.endianness) c.head.ensures c.in-Ok.ensures.0) c.in_err-encode.field-0.0 p.0 c.in_err-encode.ensures p.2)

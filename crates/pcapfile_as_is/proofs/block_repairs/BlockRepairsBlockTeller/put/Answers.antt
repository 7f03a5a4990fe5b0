use Rattle.std.proofs.Common.{Err, refl, subst}
use Rattle.std.proofs.lemmas.Result.{err_from_is_err_and}
use Rattle.pcap_ng.specs.RawBlocks.{raw_in}
use Rattle.pcap_tolerant_captures.specs.ReaderAsIs.{lent_item}
use Rattle.pcap_written.specs.Raw.{Raw}
use Rattle.pcapfile_mended.specs.Mended.{IsMended}
use Rattle.pcapfile_as_is.specs.MendedBlocks.{WritesMended, TellsMended, is_another}
use Rattle.pcapfile_as_is.specs.Texts.{numbered}
use Rattle.pcapfile_as_is.proofs.Tellings.{writes_as}
use Rattle.pcapfile_as_is.proofs.block_repairs.BlockRepairsBlockTeller.put.Goals as goal

pub returns-in_err-mended-clause-writes : goal.returns-in_err-mended-clause-writes
returns-in_err-mended-clause-writes g c =
    let raw = raw_in (lent_item c.args.reader.now c.args.lent.now).block in
    let before = g.W.Write.contents c.args.output.now in
    let after = g.W.Write.contents c.put_mended.new.output in
    let exit = c.in_err-mended.field-0.0 in
    let p = err_from_is_err_and c.from_residual.result c.from_residual.ensures.1 in
    let put = subst (λ (r : Raw). WritesMended r before after (Err exit)) c.block_in-block.ensures c.in_err-mended.ensures in
    let told = numbered (is_another put.0) in
    let wrote = writes_as (IsMended raw put.0) (TellsMended raw told) (λ line mended. (put.0, mended, refl)) before after (Err exit) put.1 in
    rw (p.1, p.2) (told, wrote)

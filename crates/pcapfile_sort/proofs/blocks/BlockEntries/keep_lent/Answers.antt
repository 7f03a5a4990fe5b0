use Rattle.std.proofs.Common.{sym, ap, length, subst, refl}
use Rattle.pcap_ng.specs.Frames.{Framed, framed_of}
use Rattle.pcap_ng.specs.Reader.{lent_item, text_of}
use Rattle.pcapfile_sort.specs.Blocks.{RefusesParsing}
use Rattle.pcapfile_sort.proofs.KeptBlocks.{kept_numbered}
use Rattle.pcapfile_sort.proofs.blocks.BlockEntries.keep_lent.Goals as goal

pub returns-in-Ok : goal.returns-in-Ok
returns-in-Ok g c =
    kept_numbered (lent_item c.args.reader.now c.args.header) (text_of c.args.reader.now) _ (framed_of c.block-block.result) c.interfaces.ensures c.block-block.ensures.block c.args.self.now c.keep.new.self c.in-Ok.numbered c.in-Ok.ensures
    _ (ap length (sym c.text.ensures)) c.keep.result c.keep.ensures

pub returns : goal.returns
returns g c = (subst (λ (b : Framed). RefusesParsing b c.in-Err.error) c.block-block.ensures.block c.in-Err.ensures, refl)

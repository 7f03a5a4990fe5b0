use Rattle.std.proofs.Common.{IfOk, subst, sym}
use Rattle.pcap_core.specs.declared.common.Endianness.{Endianness}
use Rattle.pcap_core.specs.Answer.{number_in}
use Rattle.pcap_core.specs.Codec.{number_bytes}
use Rattle.pcap_written.specs.Raw.{raw_of}
use Rattle.pcapfile_cut.specs.ShortBlocks.{ShortensIn}
use Rattle.pcapfile_cut.proofs.block_shortening.shorten_stated.Goals as goal

pub returns-in-Big : goal.returns-in-Big
returns-in-Big c =
    subst (λ (e : Endianness). IfOk c.shorten_in.result (ShortensIn (number_in e) (number_bytes e) c.args.most (raw_of c.args.block) c.shorten_in.new.text.items)) (sym c.in-Big.is) c.shorten_in.ensures

pub returns-in-Little : goal.returns-in-Little
returns-in-Little c =
    subst (λ (e : Endianness). IfOk c.shorten_in-in-Little.result (ShortensIn (number_in e) (number_bytes e) c.args.most (raw_of c.args.block) c.shorten_in-in-Little.new.text.items)) (sym c.in-Little.is) c.shorten_in-in-Little.ensures

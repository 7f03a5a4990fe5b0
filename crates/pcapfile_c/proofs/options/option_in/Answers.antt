use Rattle.std.proofs.Common.{arith}
use Rattle.pcap_core.specs.Faults.{Invalid}
use Rattle.pcap_core.specs.declared.rules.Rule.TheVariants.{OptionTooShort, OptionCut}
use Rattle.pcap_core.proofs.Refusals.{named_shows}
use Rattle.pcap_options.specs.Options.{OptionFault, short, cut}
use Rattle.pcap_options.proofs.ReadOptions.{head_is, not_empty}
use Rattle.pcap_raw_options.specs.UpTo.{no_kind}
use Rattle.pcapfile_c.proofs.options.option_in.Goals as goal

pub returns-then-slice-lt4 : goal.returns-then-slice-lt4
returns-then-slice-lt4 g c =
    let s = c.args.slice.now in
    let fault : OptionFault g.B.ByteOrder.number_of no_kind s (Invalid OptionTooShort) = short (omega arith) in
    (not_empty s c.if-is_empty.ensures, named_shows (OptionFault g.B.ByteOrder.number_of no_kind s) OptionTooShort c.from.result fault c.from.ensures)

pub returns-in-None : goal.returns-in-None
returns-in-None g c =
    let s = c.args.slice.now in
    let head = head_is c.split_u16-code.ensures.number c.split_u16-len.ensures.number in
    let fault : OptionFault g.B.ByteOrder.number_of no_kind s (Invalid OptionCut) = cut _ _ _ head c.if-code-eq0.false c.in-None.ensures.len in
    (not_empty s c.if-is_empty.ensures, named_shows (OptionFault g.B.ByteOrder.number_of no_kind s) OptionCut c.from-in-None.result fault c.from-in-None.ensures)

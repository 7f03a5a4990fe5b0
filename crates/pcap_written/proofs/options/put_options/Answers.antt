use Rattle.std.proofs.Common.{map}
use Rattle.std.proofs.lemmas.Result.{err_from_is_err_and}
use Rattle.pcap_written.specs.Text.{option_text}
use Rattle.pcap_written.specs.Fits.{IsFitOption}
use Rattle.pcap_written.specs.Flaws.{OptionFlaw, ListFlaw}
use Rattle.pcap_written.proofs.Lists.{any_at, puts_more, fits_more}
use Rattle.pcap_written.proofs.Puts.{refuses_more}
use Rattle.pcap_written.proofs.options.put_options.Goals as goal

pub returns-in_err-put_option : goal.returns-in_err-put_option
returns-in_err-put_option g c =
    let order = g.B.ByteOrder.number_of in
    let write = g.B.ByteOrder.bytes_of in
    let kind = g.O.WrittenOption.kind in
    let p = err_from_is_err_and c.from_residual.result c.from_residual.ensures.1 in
    rw (p.1, p.2) (refuses_more (λ flaw. OptionFlaw order write kind flaw (g.O.WrittenOption.view c.option-item.result)) (ListFlaw order write kind (map g.O.WrittenOption.view c.args.options.now))
    (λ flaw here. any_at g.O.WrittenOption.view (OptionFlaw order write kind flaw) c.args.options.now c.loop-option.option-index c.option-item.result c.loop-option-test.true c.option-item.is here) c.in_err-put_option.field-0.0 c.in_err-put_option.ensures)

pub loop-option-preserved : goal.loop-option-preserved
loop-option-preserved g c = record {
  out = puts_more g.O.WrittenOption.view (option_text g.B.ByteOrder.bytes_of g.O.WrittenOption.kind) c.args.options.now c.loop-option.option-index c.option-item.result c.args.out.now.items c.loop-option.out.items _ c.loop-option-test.true c.option-item.is c.loop-option.invariant.out c.in_ok-put_option.ensures.0;
  fit = fits_more g.O.WrittenOption.view (IsFitOption g.B.ByteOrder.number_of g.B.ByteOrder.bytes_of g.O.WrittenOption.kind) c.args.options.now c.loop-option.option-index c.option-item.result c.loop-option-test.true c.option-item.is c.loop-option.invariant.fit c.in_ok-put_option.ensures.1;
}

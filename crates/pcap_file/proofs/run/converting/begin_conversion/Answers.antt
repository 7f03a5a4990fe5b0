use Rattle.std.proofs.Common.{◌∙◌, List, ℕ, inr, subst}
use Rattle.std.proofs.lemmas.Result.{err_from_is_err_and}
use Rattle.std.specs.Io.KnownBytes.{Appends}
use Rattle.pcap_items.specs.Writing.{AppendsPart}
use Rattle.pcap_items.proofs.Copying.{torn_write}
use Rattle.pcap_file.proofs.run.converting.begin_conversion.Goals as goal

pub returns-in_err-put : goal.returns-in_err-put
returns-in_err-put g c =
    let p = err_from_is_err_and c.from_residual-in_err-put.result c.from_residual-in_err-put.ensures.1 in
    let part = torn_write _ _ _ _ c.in_err-put.ensures.out in
    let same = c.as_slice.ensures.value ∙ c.in_ok-text.ensures.0 in
    rw (p.1, p.2) (inr (inr (record {
      header = c.in_ok-header.header;
      read = c.in_ok-header.ensures.1;
      refused = part.0;
      none = c.requires.none;
      no_read_failed = c.in_ok-header.ensures.0;
      write_failed = c.in_err-put.ensures.told;
      out = subst (λ (t : List ℕ). AppendsPart (g.W.Write.contents c.args.writer.now) (g.W.Write.contents c.put.new.writer) t) same part.1;
    })))

pub returns : goal.returns
returns g c =
    let same = c.as_slice.ensures.value ∙ c.in_ok-text.ensures.0 in (
      record {
        read = c.in_ok-header.ensures.1;
        fit = c.in_ok-text.ensures.1;
        out = subst (λ (t : List ℕ). Appends (g.W.Write.contents c.args.writer.now) (g.W.Write.contents c.put.new.writer) t) same c.in_ok-put.ensures.out;
      },
      record { none = c.requires.none; no_read_failed = c.in_ok-header.ensures.0; no_write_failed = c.in_ok-put.ensures.told ∙ c.requires.no_write_failed },
    )

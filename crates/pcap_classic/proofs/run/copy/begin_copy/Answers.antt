use Rattle.std.proofs.Common.{inl, inr}
use Rattle.std.proofs.lemmas.Result.{err_from_is_err_and}
use Rattle.std.proofs.KnownBytes.{Keeps-refl}
use Rattle.pcap_classic.proofs.run.copy.begin_copy.Goals as goal

pub returns-in_err-header : goal.returns-in_err-header
returns-in_err-header g c =
    let p = err_from_is_err_and c.from_residual.result c.from_residual.ensures.1 in
    rw (p.1, p.2) (inr (inl (record {
      valid = c.is_writable.ensures.0 c.if-not-is_writable.false;
      refused = c.in_err-header.ensures;
      none = c.requires.none;
      no_write_failed = c.requires.no_write_failed;
      out = Keeps-refl _;
    })))

use Rattle.std.proofs.Common.{◌≡◌, ℕ, List, Option, Err, inl, inr, rules, subst, sym}
use Rattle.std.specs.Io.KnownBytes.{Keeps}
use Rattle.std.proofs.KnownBytes.{Keeps-refl}
use Rattle.pcap_core.specs.declared.errors.PcapError.TheVariants.{OutOfMemory}
use Rattle.pcapfile_selected.specs.SelectedItems.{FailsToBegin}
use Rattle.pcapfile_selected.proofs.reading.Reading.new.Goals as goal

pub returns-in_err-clone : goal.returns-in_err-clone
returns-in_err-clone g c =
    let left = g.R.Read.remaining c.args.capture in
    let kept = subst (λ (l : Option (List ℕ)). Keeps left l) (sym c.in_ok-input.ensures.reads) (Keeps-refl left) in
    let failed : c.from_residual-in_err-clone.result ≡ Err (OutOfMemory c.in_err-clone.field-0.0) = search rules in
    rw (c.in-Some.is, failed) (inr (c.in_ok-input.input, kept, inr (inl tt)))

pub returns-in_err-selected : goal.returns-in_err-selected
returns-in_err-selected g c =
    let e = c.in_err-selected.field-0.0 in
    let failed : c.from_residual-in_err-selected.result ≡ Err e = search rules in
    rw (c.in-Some.is, failed) (subst (λ (l : Option (List ℕ)). FailsToBegin g.R.Read.remaining l e) c.in_ok-input.ensures.reads c.in_err-selected.ensures)

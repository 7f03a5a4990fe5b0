use Rattle.std.proofs.Common.{Bool, get_or, refl, ap, ◌∙◌}
use Rattle.std.proofs.lemmas.Result.{err_from_is_err_and}
use Rattle.pcap_items.proofs.Copying.{torn_write}
use Rattle.pcapfile_merge.specs.Merging.{next_number}
use Rattle.pcapfile_merge.proofs.Steps.{chosen_holds, next_held}
use Rattle.pcapfile_merge.proofs.merging.merge_at.Goals as goal

pub advance-requires : goal.advance-requires
advance-requires g c =
    let sources = c.args.sources.now in
    let place = c.args.place in
    let chosen = c.requires.chosen in
    chosen_holds chosen.0 sources place chosen.1.0 (get_or sources place c.index-sources-place.result) chosen.1.1 (ap (λ d. get_or sources place d) c.index-sources-place.is)

pub returns-in_err-put_held : goal.returns-in_err-put_held
returns-in_err-put_held g c =
    let old = get_or c.args.sources.now c.args.place c.index-sources-place.result in
    let p = err_from_is_err_and c.from_residual.result c.from_residual.ensures.1 in
    let part = torn_write _ _ _ _ c.in_err-put_held.ensures in
    rw (p.1, p.2) (old, old, ap (λ d. get_or c.args.sources.now c.args.place d) c.index-sources-place.is, refl, (refl, part.0, part.1, refl))

pub returns : goal.returns
returns g c =
    let old = get_or c.args.sources.now c.args.place c.index-sources-place.result in
    let number = c.args.interfaces.now in (
      old,
      c.advance.new.self,
      ap (λ d. get_or c.args.sources.now c.args.place d) c.index-sources-place.is,
      refl,
      (c.advance.ensures, c.in_ok-put_held.ensures, c.next_number.ensures ∙ ap (λ (b : Bool). next_number b number) c.holds_interface.ensures ∙ next_held old.reader old.taken.next number),
    )

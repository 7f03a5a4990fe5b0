use Rattle.std.proofs.lemmas.List.{map-append}
use Rattle.std.proofs.lemmas.List.Elements.{All-push}
use Rattle.std.specs.Cow.{IsBorrowedStr}
use Rattle.pcap_options.specs.Names.{NameText}
use Rattle.std.proofs.lemmas.Result.{err_from_is_err_and}
use Rattle.pcap_core.proofs.Padded.{chain_more}
use Rattle.pcap_options.proofs.Growth.{begins_with}
use Rattle.pcap_options.proofs.names.names_from_slice.Goals as goal

pub returns-in_err-push-clause-tells : goal.returns-in_err-push-clause-tells
returns-in_err-push-clause-tells c =
    let p = err_from_is_err_and c.from_residual-in_err-push.result c.from_residual-in_err-push.ensures.1 in
    rw (p.1, p.2) (begins_with NameText _ _ _ _ _ c.loop-rest.invariant.so_far c.in_ok-after.ensures.tells)

pub loop-rest-preserved : goal.loop-rest-preserved
loop-rest-preserved c = record {
  so_far = rw (c.in_ok-push.ensures.items, map-append) (chain_more NameText _ _ _ _ _ c.loop-rest.invariant.so_far c.in_ok-after.ensures.tells);
  borrowed = rw c.in_ok-push.ensures.items (All-push IsBorrowedStr _ _ c.loop-rest.invariant.borrowed tt);
}

use Rattle.std.proofs.lemmas.List.{map-append}
use Rattle.std.proofs.lemmas.List.Elements.{All-push}
use Rattle.pcap_core.proofs.Padded.{chain_more}
use Rattle.pcap_options.specs.Options.{OptionText, OptionsMayGrow}
use Rattle.pcap_options.specs.CommonOptions.{UnknownIsBorrowed}
use Rattle.pcap_options.proofs.Growth.{begins_with}
use Rattle.pcap_raw_options.specs.UpTo.{no_kind}
use Rattle.pcap_raw_options.proofs.RawRead.{holds_on_err}
use Rattle.pcap_raw_options.proofs.raw.raw_options.Goals as goal

pub returns-in_err-push-in-Some-clause-memory : goal.returns-in_err-push-in-Some-clause-memory
returns-in_err-push-in-Some-clause-memory g c =
    let order = g.B.ByteOrder.number_of in
    let begun : OptionsMayGrow order no_kind c.args.slice.now =
    begins_with (OptionText order no_kind) _ _ _ _ _ c.loop-left.invariant.read (rw c.in-Some.is at c.in-Ok.ensures.tells) in
    holds_on_err (OptionsMayGrow order no_kind c.args.slice.now) begun c.from_residual.result

pub loop-left-preserved : goal.loop-left-preserved
loop-left-preserved g c = record {
  read = rw (c.in_ok-push-in-Some.ensures.items, map-append) (chain_more (OptionText g.B.ByteOrder.number_of no_kind) _ _ _ _ _ c.loop-left.invariant.read (rw c.in-Some.is at c.in-Ok.ensures.tells));
  borrowed = rw c.in_ok-push-in-Some.ensures.items (All-push UnknownIsBorrowed _ _ c.loop-left.invariant.borrowed (rw c.in-Some.is at c.in-Ok.ensures.borrowed));
}

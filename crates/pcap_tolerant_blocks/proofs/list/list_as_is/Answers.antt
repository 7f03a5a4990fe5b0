use Rattle.std.proofs.Common.{map}
use Rattle.std.proofs.lemmas.List.{map-append}
use Rattle.std.proofs.lemmas.List.Elements.{All-push}
use Rattle.pcap_options.proofs.ReadOptions.{not_empty}
use Rattle.pcap_tolerant_blocks.specs.Flaws.{said_of}
use Rattle.pcap_tolerant_blocks.specs.OptionsAsIs.{judged_of, OptionsGrow}
use Rattle.pcap_tolerant_blocks.proofs.Lists.{read_more, read_cut}
use Rattle.pcap_tolerant_blocks.proofs.Growth.{grows_by_option, grows_by_fault}
use Rattle.pcap_tolerant_blocks.proofs.list.list_as_is.Goals as goal
use Rattle.pcap_raw_options.proofs.RawRead.{holds_on_err}

pub returns-in_err-push-in-Err-clause-memory : goal.returns-in_err-push-in-Err-clause-memory
returns-in_err-push-in-Err-clause-memory g c =
    let order = g.B.ByteOrder.number_of in
    let kind = g.O.PcapNgOption.kind in
    let grows = grows_by_fault order kind _ _ c.args.slice.now c.loop-left.left.now _ c.loop-left.invariant.so_far (not_empty _ c.loop-left-test.ensures) c.in-Err.ensures.tells in
    holds_on_err (OptionsGrow order kind c.args.slice.now) grows c.from_residual.result

pub returns-in-Err-clause-read : goal.returns-in-Err-clause-read
returns-in-Err-clause-read g c =
    rw c.in_ok-push-in-Err.ensures.items (read_cut g.B.ByteOrder.number_of g.O.PcapNgOption.kind _ c.loop-left.flaws.items c.of_body.result _ _ _ c.of_body.ensures c.loop-left.invariant.so_far (not_empty _ c.loop-left-test.ensures) c.in-Err.ensures.tells)

pub returns-in_err-keep-in-Some-clause-memory : goal.returns-in_err-keep-in-Some-clause-memory
returns-in_err-keep-in-Some-clause-memory g c =
    let order = g.B.ByteOrder.number_of in
    let kind = g.O.PcapNgOption.kind in
    let text = rw c.in-Some.is at c.in-Ok.ensures.tells in
    let grows = grows_by_option order kind _ _ c.args.slice.now c.loop-left.left.now c.in-Ok.read.0.now (judged_of g.O.HoldsEntry.entry c.in-Some.read) c.loop-left.invariant.so_far text in
    holds_on_err (OptionsGrow order kind c.args.slice.now) grows c.from_residual-in_err-keep-in-Some.result

pub loop-left-preserved : goal.loop-left-preserved
loop-left-preserved g c =
    let view = g.O.HoldsEntry.entry in
    let text = rw c.in-Some.is at c.in-Ok.ensures.tells in
    record {
      so_far = rw (c.in_ok-keep-in-Some.ensures.options, map-append, c.in_ok-keep-in-Some.ensures.flaws)
          (read_more g.B.ByteOrder.number_of g.O.PcapNgOption.kind (map view c.loop-left.options.items) (map said_of c.loop-left.flaws.items) c.args.slice.now c.loop-left.left.now c.in-Ok.read.0.now (judged_of view c.in-Some.read) c.loop-left.invariant.so_far text);
      borrowed = rw c.in_ok-keep-in-Some.ensures.options (All-push g.O.PcapNgOption.is_borrowed _ _ c.loop-left.invariant.borrowed (rw c.in-Some.is at c.in-Ok.ensures.borrowed));
    }

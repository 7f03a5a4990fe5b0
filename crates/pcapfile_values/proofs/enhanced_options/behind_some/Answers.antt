use Rattle.std.proofs.Common.{[], ◌∷◌, ◌++◌, arith}
use Rattle.std.proofs.lemmas.List.Elements.{All-push}
use Rattle.pcap_core.proofs.Padded.{chain_more}
use Rattle.pcap_options.specs.EnhancedOption.{enhanced_packet}
use Rattle.pcap_options.specs.Options.{OptionText, marked}
use Rattle.pcap_options.specs.Values.{Entry}
use Rattle.pcap_options.proofs.OneList.{item_shorter}
use Rattle.pcap_options.proofs.ReadOptions.{head_with, is_empty, list_ends, not_empty}
use Rattle.pcapfile_values.specs.EnhancedOptions.{IsPassed, ValueText}
use Rattle.pcapfile_values.proofs.Passed.{behind_stops, short_stops, value_stops}
use Rattle.pcapfile_values.proofs.enhanced_options.behind_some.Goals as goal

pub returns-then-code-eq0 : goal.returns-then-code-eq0
returns-then-code-eq0 g c =
    let so_far = c.loop-left.invariant.so_far in
    (so_far.0, record { list = marked c.loop-left.left.now so_far.1 (record { ignored = c.in_ok-code.len; head = rw c.if-code-eq0.true at c.in_ok-code.ensures }); passed = so_far.2 })

pub loop-left-preserved : goal.loop-left-preserved
loop-left-preserved g c =
    let order = g.B.ByteOrder.number_of in
    let head = c.in_ok-code in
    let so_far = c.loop-left.invariant.so_far in
    let left = c.loop-left.left.now in
    let rest = c.in_ok-left.left.now in
    let found : ValueText order head.code head.len head.after.now rest = c.in_ok-left.ensures in
    let entry : Entry = record { code = head.code; value = found.value } in
    let option : OptionText order enhanced_packet entry left rest =
    record {
      v = found.bytes;
      after_head = head.after.now;
      head = head_with order head.code head.len found.bytes left head.after.now head.ensures found.length_is;
      no_mark = c.if-code-eq0.false;
      padded = found.padded;
      value_is = found.value_is;
    } in
    let shorter = item_shorter order enhanced_packet entry left rest option in
    record { within = omega (arith, shorter, c.loop-left.invariant.within); so_far = (so_far.0 ++ entry ∷ [], chain_more (OptionText order enhanced_packet) so_far.0 c.args.slice.now left rest entry so_far.1 option, All-push (λ option. IsPassed option.code) so_far.0 entry so_far.2 found.passed) }

pub returns-in_err-code : goal.returns-in_err-code
returns-in_err-code g c =
    let order = g.B.ByteOrder.number_of in
    let so_far = c.loop-left.invariant.so_far in
    let left = c.loop-left.left.now in
    rw c.from_residual.ensures (behind_stops order so_far.0 c.args.slice.now left so_far.1 (short_stops order left (not_empty left c.loop-left-test.ensures) c.in_err-code.ensures))

pub returns-in_err-left : goal.returns-in_err-left
returns-in_err-left g c =
    let order = g.B.ByteOrder.number_of in
    let head = c.in_ok-code in
    let so_far = c.loop-left.invariant.so_far in
    let left = c.loop-left.left.now in
    let none = value_stops order head.code head.len left head.after.now head.ensures c.if-code-eq0.false c.in_err-left.ensures in
    rw c.from_residual-in_err-left.ensures (behind_stops order so_far.0 c.args.slice.now left so_far.1 none)

pub returns : goal.returns
returns g c =
    let order = g.B.ByteOrder.number_of in
    let so_far = c.loop-left.invariant.so_far in
    let left = c.loop-left.left.now in
    (so_far.0, record { list = list_ends order enhanced_packet so_far.0 c.args.slice.now left so_far.1 (is_empty left c.loop-left-test.ensures); passed = so_far.2 })

use Rattle.std.proofs.Common.{◌-◌, length, arith, ap, refl, ◌∙◌}
use Rattle.std.proofs.Math.Nat.{min-le_right}
use Rattle.std.proofs.lemmas.List.{length-take-le}
use Rattle.std.proofs.lemmas.Result.{err_from_is_err_and}
use Rattle.pcap_items.specs.Window.{bytes_of, shown_of, requests_made}
use Rattle.pcap_items.proofs.Showing.{showing_none, showing_few, showing_more, showing_item, showing_text, showing_refused, showing_fault, showing_ended, showing_lack, showing_split}
use Rattle.pcap_items.proofs.run.exact.show_item.Goals as goal

pub asking-init : goal.asking-init
asking-init g c =
    let p = g.P.Items in
    record {
      start_is = ap length c.seen-start.ensures.seen ∙ length-take-le _ _ c.seen-start.ensures.within;
      state = refl;
      bytes = refl;
      showing = λ laws. showing_none p.format laws (p.state c.args.parser.now) (bytes_of c.args.window.now) (shown_of c.args.window.now) (requests_made c.args.window.now) c.args.requests.now;
    }

pub seen_after-requires : goal.seen_after-requires
seen_after-requires g c = omega (arith, c.asking.invariant.start_is, (c.asking.invariant.showing c.requires.lawful).sum)

pub overflow_add-requests : goal.overflow_add-requests
overflow_add-requests g c = omega (arith, showing_few (c.asking.invariant.showing c.requires.lawful), c.requires.room)

pub returns-in-Item-clause-asked : goal.returns-in-Item-clause-asked
returns-in-Item-clause-asked g c =
    let told = rw (c.in-Item.is, c.seen_after.ensures, c.asking.invariant.start_is, c.asking.invariant.bytes, c.asking.invariant.state) at c.in_ok-item.ensures.finds in
    showing_item (c.asking.invariant.showing c.requires.lawful) told.value c.in-Item.field-0-0.now told.text

pub returns-in-Item-clause-found : goal.returns-in-Item-clause-found
returns-in-Item-clause-found g c =
    let told = rw (c.in-Item.is, c.seen_after.ensures, c.asking.invariant.start_is, c.asking.invariant.bytes, c.asking.invariant.state) at c.in_ok-item.ensures.finds in
    record { value = told.value; text = showing_text (c.asking.invariant.showing c.requires.lawful) told.value c.in-Item.field-0-0.now told.text; goes = told.goes; part_is = told.part_is }

pub returns-then-shown-n-clause-asked : goal.returns-then-shown-n-clause-asked
returns-then-shown-n-clause-asked g c =
    let told = rw (c.in-Needs.is, c.seen_after.ensures, c.asking.invariant.start_is, c.asking.invariant.bytes, c.asking.invariant.state) at c.in_ok-item.ensures.finds in
    let met = rw c.asking.invariant.bytes at c.ask-shown.ensures.count in
    rw c.ask-shown.ensures.requests (showing_ended (c.asking.invariant.showing c.requires.lawful) c.in-Needs.n c.ask-shown.result told.1 met (omega (arith, c.if-shown-n.true)))

pub returns-then-shown-n-clause-found : goal.returns-then-shown-n-clause-found
returns-then-shown-n-clause-found g c =
    let told = rw (c.in-Needs.is, c.seen_after.ensures, c.asking.invariant.start_is, c.asking.invariant.bytes, c.asking.invariant.state) at c.in_ok-item.ensures.finds in
    let met = rw c.asking.invariant.bytes at c.ask-shown.ensures.count in
    (told.0, showing_lack (c.asking.invariant.showing c.requires.lawful) c.in-Needs.n c.ask-shown.result told.1 met (omega (arith, c.if-shown-n.true)))

pub asking-smaller : goal.asking-smaller
asking-smaller g c =
    let told = rw (c.in-Needs.is, c.seen_after.ensures, c.asking.invariant.start_is, c.asking.invariant.bytes, c.asking.invariant.state) at c.in_ok-item.ensures.finds in
    let some = c.requires.lawful.asks _ _ c.in-Needs.n told.1 in
    let bytes = bytes_of c.asking.window in
    let shown = shown_of c.asking.window in
    omega (arith, some, c.if-shown-n.false, c.ask-shown.ensures.count, min-le_right c.in-Needs.n (length bytes - shown), c.ask-shown.ensures.shown, ap length c.ask-shown.ensures.bytes)

pub asking-preserved : goal.asking-preserved
asking-preserved g c =
    let told = rw (c.in-Needs.is, c.seen_after.ensures, c.asking.invariant.start_is, c.asking.invariant.bytes, c.asking.invariant.state) at c.in_ok-item.ensures.finds in
    let met = rw c.asking.invariant.bytes at c.ask-shown.ensures.count in
    record {
      start_is = c.asking.invariant.start_is;
      state = told.0;
      bytes = c.ask-shown.ensures.bytes ∙ c.asking.invariant.bytes;
      showing = λ laws. rw (c.ask-shown.ensures.shown, c.ask-shown.ensures.requests) (showing_more (c.asking.invariant.showing laws) c.in-Needs.n c.ask-shown.result told.1 met (omega (arith, c.if-shown-n.false)));
    }

pub returns-in-Refused-clause-asked : goal.returns-in-Refused-clause-asked
returns-in-Refused-clause-asked g c =
    let told = rw (c.in-Refused.is, c.seen_after.ensures, c.asking.invariant.start_is, c.asking.invariant.bytes, c.asking.invariant.state) at c.in_ok-item.ensures.finds in
    showing_refused (c.asking.invariant.showing c.requires.lawful) told.1.0 told.1.2

pub returns-in-Refused-clause-found : goal.returns-in-Refused-clause-found
returns-in-Refused-clause-found g c =
    let told = rw (c.in-Refused.is, c.seen_after.ensures, c.asking.invariant.start_is, c.asking.invariant.bytes, c.asking.invariant.state) at c.in_ok-item.ensures.finds in
    (told.0, (told.1.0, told.1.1, showing_fault (c.asking.invariant.showing c.requires.lawful) told.1.0 told.1.2))

pub returns-in_err-item-clause-memory : goal.returns-in_err-item-clause-memory
returns-in_err-item-clause-memory g c =
    let grown = rw (c.seen_after.ensures, c.asking.invariant.start_is, c.asking.invariant.bytes, c.asking.invariant.state) at c.in_err-item.ensures.finds in
    let split = showing_split (c.asking.invariant.showing c.requires.lawful) in
    let e = err_from_is_err_and c.from_residual.result c.from_residual.ensures.1 in
    rw e.1 (_, split.0, split.1, grown)

use Rattle.std.proofs.Common.{refl, arith, ◌∙◌, subst, take, drop}
use Rattle.std.proofs.lemmas.List.{take-append-drop}
use Rattle.std.proofs.lemmas.Result.{err_from_is_err_and}
use Rattle.pcap_core.specs.Answer.{faulty}
use Rattle.pcap_items.specs.Window.{bytes_of, shown_of, requests_made}
use Rattle.pcap_core.proofs.Refusals.{shown_fault, shows_more}
use Rattle.pcap_items.proofs.Showing.{showing_none, showing_few, showing_more, showing_smaller, showing_item, showing_text, showing_refused, showing_fault, showing_ended, showing_lack}
use Rattle.pcap_ng.specs.Blocks.{Item, MayGrow, block_format}
use Rattle.pcap_ng.specs.Opening.{OpeningSays}
use Rattle.pcap_ng.specs.Parser.{state_of}
use Rattle.pcap_ng.specs.State.{opening}
use Rattle.pcap_ng.proofs.BlockFormat.{blocks_lawful}
use Rattle.pcap_ng.proofs.FirstBlock.{grows_more}
use Rattle.pcap_ng.proofs.run.exact.show_first.Goals as goal

pub asking-init : goal.asking-init
asking-init c =
    let bytes = bytes_of c.args.window.now in
    let earlier = requests_made c.args.window.now in
    record {
      bytes = refl;
      showing = rw (c.requires.none, c.requires.first) (showing_none block_format blocks_lawful opening bytes 0 earlier 0);
    }

pub returns-in-Item-clause-asked : goal.returns-in-Item-clause-asked
unfolding block_format
returns-in-Item-clause-asked c =
    let told = rw (c.in-Item.is, c.seen.ensures.seen, c.asking.invariant.bytes) at c.in_ok-parser.ensures in
    let item : Item = record { block = told.0; after = state_of c.in-Item.parser } in
    showing_item c.asking.invariant.showing item c.in-Item.field-0-0.now told.1

pub returns-in-Item-clause-found : goal.returns-in-Item-clause-found
unfolding block_format
returns-in-Item-clause-found c =
    let told = rw (c.in-Item.is, c.seen.ensures.seen, c.asking.invariant.bytes) at c.in_ok-parser.ensures in
    let item : Item = record { block = told.0; after = state_of c.in-Item.parser } in
    (told.0, showing_text c.asking.invariant.showing item c.in-Item.field-0-0.now told.1)

pub overflow_add-requests : goal.overflow_add-requests
overflow_add-requests c = omega (arith, showing_few c.asking.invariant.showing)

pub returns-then-shown-n-clause-asked : goal.returns-then-shown-n-clause-asked
unfolding block_format
returns-then-shown-n-clause-asked c =
    let told = rw (c.in-Needs.is, c.seen.ensures.seen, c.asking.invariant.bytes) at c.in_ok-parser.ensures in
    let met = rw c.asking.invariant.bytes at c.ask-shown.ensures.count in
    rw c.ask-shown.ensures.requests (showing_ended c.asking.invariant.showing c.in-Needs.n c.ask-shown.result told met (omega (arith, c.if-shown-n.true)))

pub returns-then-shown-n-clause-found : goal.returns-then-shown-n-clause-found
unfolding block_format
returns-then-shown-n-clause-found c =
    let told = rw (c.in-Needs.is, c.seen.ensures.seen, c.asking.invariant.bytes) at c.in_ok-parser.ensures in
    let met = rw c.asking.invariant.bytes at c.ask-shown.ensures.count in
    showing_lack c.asking.invariant.showing c.in-Needs.n c.ask-shown.result told met (omega (arith, c.if-shown-n.true))

pub asking-smaller : goal.asking-smaller
unfolding block_format
asking-smaller c =
    let told = rw (c.in-Needs.is, c.seen.ensures.seen, c.asking.invariant.bytes) at c.in_ok-parser.ensures in
    let met = rw c.asking.invariant.bytes at c.ask-shown.ensures.count in
    rw c.ask-shown.ensures.shown (showing_smaller c.asking.invariant.showing c.in-Needs.n c.ask-shown.result told met (omega (arith, c.if-shown-n.false)))

pub asking-preserved : goal.asking-preserved
unfolding block_format
asking-preserved c =
    let told = rw (c.in-Needs.is, c.seen.ensures.seen, c.asking.invariant.bytes) at c.in_ok-parser.ensures in
    let met = rw c.asking.invariant.bytes at c.ask-shown.ensures.count in
    record {
      bytes = c.ask-shown.ensures.bytes ∙ c.asking.invariant.bytes;
      showing = rw (c.ask-shown.ensures.shown, c.ask-shown.ensures.requests) (showing_more c.asking.invariant.showing c.in-Needs.n c.ask-shown.result told met (omega (arith, c.if-shown-n.false)));
    }

pub returns-in-Refused-clause-asked : goal.returns-in-Refused-clause-asked
unfolding block_format
returns-in-Refused-clause-asked c =
    let told = rw (c.in-Refused.is, c.seen.ensures.seen, c.asking.invariant.bytes) at c.in_ok-parser.ensures in
    let said = shown_fault (λ fault. OpeningSays (take (shown_of c.asking.window) (bytes_of c.args.window.now)) (faulty fault)) c.in-Refused.e told in
    showing_refused c.asking.invariant.showing said.0 said.1

pub returns-in-Refused-clause-found : goal.returns-in-Refused-clause-found
unfolding block_format
returns-in-Refused-clause-found c =
    let told = rw (c.in-Refused.is, c.seen.ensures.seen, c.asking.invariant.bytes) at c.in_ok-parser.ensures in
    shows_more (λ fault stands. showing_fault c.asking.invariant.showing fault stands) c.in-Refused.e told

pub returns-in_err-parser-clause-memory : goal.returns-in_err-parser-clause-memory
returns-in_err-parser-clause-memory c =
    let p = err_from_is_err_and c.from_residual.result c.from_residual.ensures.1 in
    let bytes = bytes_of c.args.window.now in
    let shown = shown_of c.asking.window in
    let seen = rw (c.seen.ensures.seen, c.asking.invariant.bytes) at c.in_err-parser.ensures in
    rw p.1 (subst (MayGrow opening) (take-append-drop shown bytes) (grows_more opening (take shown bytes) (drop shown bytes) seen))

use Rattle.std.proofs.Common.{◌∷◌, List, length, refl, subst, arith}
use Rattle.pcap_items.specs.Items.{ShowsFault}
use Rattle.pcap_items.proofs.Formats.{shorter}
use Rattle.pcap_items.proofs.Items.{ended_no_text, ended_rest}
use Rattle.pcap_tolerant_captures.specs.declared.block.BlockAsIs.{BlockAsIs}
use Rattle.pcap_tolerant_captures.specs.Blocks.{as_is_format, opened_of}
use Rattle.pcap_tolerant_captures.specs.Run.{IsFirstFlawed}
use Rattle.pcap_tolerant_captures.specs.State.{opening, state_of}
use Rattle.pcap_tolerant_captures.proofs.FirstFlaw.{all_used, run_front}
use Rattle.pcap_tolerant_captures.proofs.Format.{as_is_lawful}
use Rattle.pcap_tolerant_captures.proofs.run.parse_pcapng_as_is.Goals as goal

pub parse_items-requires : goal.parse_items-requires
parse_items-requires c = λ k. ((refl, tt), as_is_lawful)

pub overflow_sub-head : goal.overflow_sub-head
unfolding as_is_format
overflow_sub-head c =
    omega (arith, shorter as_is_format as_is_lawful opening (opened_of c.in_ok-after_first.opened) c.args.bytes.now c.in_ok-after_first.after_first.now c.in_ok-after_first.ensures.tells)

pub first_flawed-first_flawed-requires : goal.first_flawed-first_flawed-requires
unfolding as_is_format
first_flawed-first_flawed-requires c =
    let first = c.in_ok-after_first.opened.first in
    let start = state_of c.in_ok-after_first.opened.parser in
    let last = state_of c.parse_items.new.parser in
    let bytes = c.args.bytes.now in
    let after = c.in_ok-after_first.after_first.now in
    let run = c.in_ok-run.run' in
    let front = c.in_ok-run.ensures.front in
    let text = c.in_ok-after_first.ensures.tells in
    let all = run_front first start last run.items.items bytes after front.left text front.leads (ended_no_text as_is_format as_is_lawful ShowsFault last front.left run.ended front.ends) in
    rw c.as_slice.ensures.value (all_used last (first ∷ run.items.items) bytes front.left (length after) run.used all front.used_is (shorter as_is_format as_is_lawful opening (opened_of c.in_ok-after_first.opened) bytes after text))

pub returns-clause-front : goal.returns-clause-front
unfolding as_is_format
returns-clause-front c =
    let first = c.in_ok-after_first.opened.first in
    let start = state_of c.in_ok-after_first.opened.parser in
    let last = state_of c.parse_items.new.parser in
    let bytes = c.args.bytes.now in
    let after = c.in_ok-after_first.after_first.now in
    let run = c.in_ok-run.run' in
    let front = c.in_ok-run.ensures.front in
    let text = c.in_ok-after_first.ensures.tells in
    record {
      left = front.left;
      front = run_front first start last run.items.items bytes after front.left text front.leads (ended_no_text as_is_format as_is_lawful ShowsFault last front.left run.ended front.ends);
      used = omega (arith, front.used_is, shorter as_is_format as_is_lawful opening (opened_of c.in_ok-after_first.opened) bytes after text);
      rest = rw c.from.ensures (ended_rest (as_is_format.says last) front.left run.ended front.ends);
      first_flawed = subst (λ (l : List BlockAsIs). IsFirstFlawed (first ∷ l) c.first_flawed-first_flawed.result) c.as_slice.ensures.value c.first_flawed-first_flawed.ensures;
    }

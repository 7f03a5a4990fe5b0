use Rattle.std.proofs.Common.{◌≡◌, drop, arith, rules}
use Rattle.std.specs.Prelude.{Ok, ⊤}
use Rattle.pcap_items.specs.Run.{rest_or_memory_of}
use Rattle.pcap_ng.specs.Blocks.{block_format}
use Rattle.pcap_ng.specs.Parser.{state_of}
use Rattle.pcap_ng.proofs.BlockFormat.{blocks_lawful}
use Rattle.pcap_parts.specs.NgParts.{IsWalked}
use Rattle.pcap_parts.specs.Places.{IsPlaced}
use Rattle.pcap_parts.proofs.Passing.{but_for_memory, passing_ends, passing_more, passing_none, passing_rest, rest_is}
use Rattle.pcap_parts.proofs.Walking.{goes_further, goes_nowhere, on_none}
use Rattle.pcap_parts.proofs.walk.Walk.skip.Goals as goal

pub loop-after-init : goal.loop-after-init
loop-after-init c = record {
  passing = passing_none block_format blocks_lawful (state_of c.args.self.now.parser) c.args.slice.now c.args.at_least;
  walked = c.requires.walked;
  within = c.requires.within;
  placed = c.requires.placed;
  goes_on = goes_nowhere c.args.self.now.interfaces.items;
}

pub loop-after-preserved : goal.loop-after-preserved
unfolding block_format
loop-after-preserved c =
    let inv = c.loop-after.invariant in
    let passes = c.in-Ok.ensures.passes in
    record {
      passing = passing_more block_format blocks_lawful (state_of c.args.self.now.parser) c.args.slice.now c.args.at_least (state_of c.loop-after.self.parser) (state_of c.pass.new.self.parser) passes.0 c.loop-after.after.now
          c.in-Ok.next.now c.loop-after.items inv.passing passes.1 passes.2 (omega (arith, c.loop-after-test.true, c.saturating_sub-most_left.ensures));
      walked = c.in-Ok.ensures.walked;
      within = c.in-Ok.ensures.within;
      placed = c.in-Ok.ensures.placed;
      goes_on = goes_further c.args.self.now.interfaces.items c.loop-after.self.interfaces.items c.pass.new.self.interfaces.items inv.goes_on c.pass.ensures.goes_on;
    }

pub returns-in-Err-clause-passes : goal.returns-in-Err-clause-passes
unfolding block_format
returns-in-Err-clause-passes c =
    let here = state_of c.loop-after.self.parser in
    let left = c.loop-after.after.now in
    let said = c.in_ok-rest_or_memory-in-Err.field-0 in
    let told : rest_or_memory_of c.in-Err.error ≡ Ok said = search rules in
    let is = rest_is block_format here left ⊤ c.in-Err.error said (omega (arith, c.loop-after-test.true)) c.in-Err.ensures.refused told in
    (passing_rest block_format blocks_lawful (state_of c.args.self.now.parser) c.args.slice.now c.args.at_least here left c.loop-after.items said c.loop-after.invariant.passing
    (omega (arith, c.loop-after-test.true, c.saturating_sub-most_left.ensures)) is).passes

pub returns-in-Err-clause-goes_on : goal.returns-in-Err-clause-goes_on
returns-in-Err-clause-goes_on c = goes_further c.args.self.now.interfaces.items c.loop-after.self.interfaces.items c.pass.new.self.interfaces.items c.loop-after.invariant.goes_on c.pass.ensures.goes_on

pub returns-clause-passes : goal.returns-clause-passes
returns-clause-passes c =
    (passing_ends block_format blocks_lawful (state_of c.args.self.now.parser) c.args.slice.now c.args.at_least (state_of c.loop-after.self.parser) c.loop-after.after.now c.loop-after.items c.rest_of_all.result
    c.loop-after.invariant.passing (omega (arith, c.loop-after-test.false, c.saturating_sub-most_left.ensures)) c.rest_of_all.ensures).passes

pub returns-clause-walked : goal.returns-clause-walked
returns-clause-walked c =
    let self = c.loop-after.self in
    on_none (IsWalked c.args.bytes.now c.loop-after.after.now (state_of self.parser) self.header (drop self.first self.interfaces.items)) c.loop-after.invariant.walked c.rest_of_all.result

pub returns-in-Err-clause-placed : goal.returns-in-Err-clause-placed
returns-in-Err-clause-placed c =
    let then = c.pass.new.self in
    let told : rest_or_memory_of c.in-Err.error ≡ Ok c.in_ok-rest_or_memory-in-Err.field-0 = search rules in
    but_for_memory (IsPlaced c.args.bytes.now c.loop-after.after.now (state_of then.parser) then.header then.first then.interfaces.items) c.in-Err.error c.in_ok-rest_or_memory-in-Err.field-0 c.in-Err.ensures.stays told

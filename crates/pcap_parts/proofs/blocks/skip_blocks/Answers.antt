use Rattle.std.proofs.Common.{◌≡◌, arith, refl, rules}
use Rattle.std.specs.Prelude.{Ok}
use Rattle.pcap_items.specs.Run.{rest_or_memory_of}
use Rattle.pcap_ng.specs.Blocks.{MayGrow, block_format, item_of}
use Rattle.pcap_ng.specs.Parser.{state_of}
use Rattle.pcap_ng.proofs.BlockFormat.{blocks_lawful}
use Rattle.pcap_parts.proofs.Passing.{passing_ends, passing_more, passing_none, passing_rest, rest_is}
use Rattle.pcap_parts.proofs.blocks.skip_blocks.Goals as goal

pub loop-after-init : goal.loop-after-init
loop-after-init c = record { passing = passing_none block_format blocks_lawful (state_of c.args.parser.now) c.args.slice.now c.args.at_least }

pub loop-after-preserved : goal.loop-after-preserved
unfolding block_format
loop-after-preserved c =
    let now = state_of c.next_block.new.self in
    record {
      passing = passing_more block_format blocks_lawful (state_of c.args.parser.now) c.args.slice.now c.args.at_least (state_of c.loop-after.parser) now (item_of now c.in-Ok.block) c.loop-after.after.now c.in-Ok.next.now
          c.loop-after.items c.loop-after.invariant.passing c.in-Ok.ensures.tells refl (omega (arith, c.loop-after-test.true, c.saturating_sub-last.ensures));
    }

pub returns-in-Err-clause-passes : goal.returns-in-Err-clause-passes
unfolding block_format
returns-in-Err-clause-passes c =
    let here = state_of c.loop-after.parser in
    let left = c.loop-after.after.now in
    let said = c.in_ok-rest_or_memory-in-Err.field-0 in
    let told : rest_or_memory_of c.in-Err.error ≡ Ok said = search rules in
    let is = rest_is block_format here left (MayGrow here left) c.in-Err.error said (omega (arith, c.loop-after-test.true)) c.in-Err.ensures.tells told in
    rw c.in-Err.ensures.unchanged (passing_rest block_format blocks_lawful (state_of c.args.parser.now) c.args.slice.now c.args.at_least here left c.loop-after.items said c.loop-after.invariant.passing
    (omega (arith, c.loop-after-test.true, c.saturating_sub-last.ensures)) is)

pub returns-clause-passes : goal.returns-clause-passes
returns-clause-passes c =
    passing_ends block_format blocks_lawful (state_of c.args.parser.now) c.args.slice.now c.args.at_least (state_of c.loop-after.parser) c.loop-after.after.now c.loop-after.items c.rest_of_all.result
    c.loop-after.invariant.passing (omega (arith, c.loop-after-test.false, c.saturating_sub-last.ensures)) c.rest_of_all.ensures

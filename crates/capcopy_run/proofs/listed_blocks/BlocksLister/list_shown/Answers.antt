use Rattle.std.proofs.Common.{◌≡◌, ◌+◌, ◌∙◌, rules, arith, Ok, Err, refl, sym, ap, subst}
use Rattle.std.proofs.lemmas.Result.{err_from_is_err_and}
use Rattle.pcap_ng.specs.Blocks.{item_of}
use Rattle.pcap_ng.specs.Parser.{state_of}
use Rattle.pcap_ng.proofs.BlockFormat.{block_said}
use Rattle.pcap_program.specs.Lines.{WritesLine}
use Rattle.capcopy_run.proofs.Turns.{walked_none, walked_more, walked_refused, walked_torn, walked_used}
use Rattle.capcopy_run.proofs.listed_blocks.BlocksLister.list_shown.Goals as goal

pub loop-listed-init : goal.loop-listed-init
loop-listed-init g c = record { walked = walked_none (g.L.BlockLine.line (g.L.BlockLine.setting c.args.self.now.lines)) g.L.BlockLine.format _ _ _ _; same = refl; more = omega arith; within = c.requires }

pub returns-in_err-write_line-in-Ok-clause-walks : goal.returns-in_err-write_line-in-Ok-clause-walks
returns-in_err-write_line-in-Ok-clause-walks g c =
    let blocks = g.met.L.BlockLine.are_blocks in
    let line = g.L.BlockLine.line in
    let setting = g.L.BlockLine.setting c.args.self.now.lines in
    let here = state_of c.loop-listed.self.parser in
    let kept = g.L.BlockLine.kept c.loop-listed.self.lines in
    let reached = g.L.BlockLine.reached here kept in
    let item = item_of (state_of c.next_block.new.self) c.in-Ok.block in
    let value = g.L.BlockLine.value kept item in
    let rest = c.loop-listed.rest.now in
    let after = c.in-Ok.after.now in
    let stands = blocks.text here kept rest after item (block_said here item rest after c.in-Ok.ensures.tells) in
    let p = err_from_is_err_and c.from_residual.result c.from_residual.ensures.1 in
    let writes = subst (λ s. WritesLine (line s (c.loop-listed.listed + 1) value) (g.W.Write.contents c.loop-listed.output) (g.W.Write.contents c.write_line.new.output) (Err c.in_err-write_line-in-Ok.field-0.0)) c.loop-listed.invariant.same c.in_err-write_line-in-Ok.ensures.writes in
    rw (p.1, p.2) (walked_torn (line setting) g.L.BlockLine.format blocks.lawful _ reached _ rest after _ _ _ c.loop-listed.listed c.loop-listed.invariant.walked value stands reached _ c.loop-listed.listed c.args.most _ c.loop-listed-test.true writes)

pub returns-in-Err-OutOfMemory-clause-walks : goal.returns-in-Err-OutOfMemory-clause-walks
returns-in-Err-OutOfMemory-clause-walks g c =
    let reached = g.L.BlockLine.reached (state_of c.loop-listed.self.parser) (g.L.BlockLine.kept c.loop-listed.self.lines) in
    walked_refused (g.L.BlockLine.line (g.L.BlockLine.setting c.args.self.now.lines)) g.L.BlockLine.format _ _ reached _ _ _ _ _ _ c.loop-listed.listed c.args.most c.loop-listed.invariant.walked c.loop-listed-test.true

pub loop-listed-preserved : goal.loop-listed-preserved
loop-listed-preserved g c =
    let blocks = g.met.L.BlockLine.are_blocks in
    let line = g.L.BlockLine.line in
    let setting = g.L.BlockLine.setting c.args.self.now.lines in
    let here = state_of c.loop-listed.self.parser in
    let there = state_of c.next_block.new.self in
    let kept = g.L.BlockLine.kept c.loop-listed.self.lines in
    let reached = g.L.BlockLine.reached here kept in
    let item = item_of there c.in-Ok.block in
    let value = g.L.BlockLine.value kept item in
    let rest = c.loop-listed.rest.now in
    let after = c.in-Ok.after.now in
    let stands = blocks.text here kept rest after item (block_said here item rest after c.in-Ok.ensures.tells) in
    let wrote = c.in_ok-write_line-in-Ok.ensures in
    let goes = blocks.goes here kept item ∙ ap (g.L.BlockLine.reached there) (sym wrote.keeps) in
    let writes = subst (λ s. WritesLine (line s (c.loop-listed.listed + 1) value) (g.W.Write.contents c.loop-listed.output) (g.W.Write.contents c.write_line.new.output) (Ok tt)) c.loop-listed.invariant.same wrote.writes in
    record {
      walked = walked_more (line setting) g.L.BlockLine.format blocks.lawful _ reached _ rest after _ _ _ c.loop-listed.listed c.loop-listed.invariant.walked value stands _ _ goes writes;
      same = wrote.same ∙ c.loop-listed.invariant.same;
      more = omega (arith, c.loop-listed.invariant.more);
      within = omega (arith, c.loop-listed-test.true);
    }

pub returns-clause-walks : goal.returns-clause-walks
returns-clause-walks g c =
    let there : state_of c.loop-listed-test.self.parser ≡ state_of c.loop-listed.self.parser = search rules in
    let still : g.L.BlockLine.kept c.loop-listed-test.self.lines ≡ g.L.BlockLine.kept c.loop-listed.self.lines = search rules in
    rw (there, still) (walked_used (g.L.BlockLine.line (g.L.BlockLine.setting c.args.self.now.lines)) g.L.BlockLine.format _ _ _ _ _ _ _ _ c.args.most c.loop-listed.invariant.walked)

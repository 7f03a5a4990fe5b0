use Rattle.std.proofs.Common.{◌∙◌, sym, ap}
use Rattle.std.proofs.KnownBytes.{Keeps-refl}
use Rattle.std.proofs.lemmas.Result.{err_from_is_err_and}
use Rattle.pcap_ng.specs.Blocks.{item_of}
use Rattle.pcap_ng.specs.Parser.{state_of}
use Rattle.capcopy_run.proofs.Listing.{ends_refused, asked_refused, ends_torn, any_torn}
use Rattle.capcopy_run.proofs.OfBlocks.{value_taken}
use Rattle.capcopy_run.proofs.Turns.{ends_here, turn_more}
use Rattle.capcopy_run.proofs.listed_blocks.BlocksLister.list_torn.Goals as goal

pub returns-in_err-block-clause-turn : goal.returns-in_err-block-clause-turn
returns-in_err-block-clause-turn g c =
    let blocks = g.met.L.BlockLine.are_blocks in
    let line = g.L.BlockLine.line (g.L.BlockLine.setting c.args.self.now.lines) in
    let here = state_of c.args.self.now.parser in
    let kept = g.L.BlockLine.kept c.args.self.now.lines in
    let reached = g.L.BlockLine.reached here kept in
    let says = g.L.BlockLine.format.says reached in
    let p = err_from_is_err_and c.from_residual.result c.from_residual.ensures.1 in
    let reads = c.in_err-block.ensures.reads in
    let e = c.in_err-block.field-0.0 in
    let cause = blocks.cause here kept _ reads.0 e reads.1.0 in
    let asked = blocks.asked here kept _ _ reads.1.1 in
    rw p.1 (ends_here line g.L.BlockLine.format reached _ _ _ _ _ _ _ (ends_refused line says _ _ c.args.listed.now c.args.most c.requires reads.0 e p.0 cause p.2) (asked_refused line says _ (g.W.Write.contents c.args.output.now) c.args.listed.now c.args.most c.requires _ e p.0 asked p.2))

pub returns-in_default-clause-turn : goal.returns-in_default-clause-turn
returns-in_default-clause-turn g c =
    let reads = rw c.in_default.is at c.in_ok-block.ensures.reads in
    ends_here (g.L.BlockLine.line (g.L.BlockLine.setting c.args.self.now.lines)) g.L.BlockLine.format _ _ _ _ _ _ _ _ (c.requires, reads.1.1, Keeps-refl _) reads.1.2

pub returns-in_err-write_line-clause-turn : goal.returns-in_err-write_line-clause-turn
returns-in_err-write_line-clause-turn g c =
    let blocks = g.met.L.BlockLine.are_blocks in
    let line = g.L.BlockLine.line (g.L.BlockLine.setting c.args.self.now.lines) in
    let here = state_of c.args.self.now.parser in
    let kept = g.L.BlockLine.kept c.args.self.now.lines in
    let reached = g.L.BlockLine.reached here kept in
    let says = g.L.BlockLine.format.says reached in
    let item = item_of (state_of c.read_block.new.self) c.in-Some.block in
    let value = g.L.BlockLine.value kept item in
    let reads = rw c.in-Some.is at c.in_ok-block.ensures.reads in
    let took = value_taken blocks here kept _ _ item reads.1.1 in
    let p = err_from_is_err_and c.from_residual-in_err-write_line.result c.from_residual-in_err-write_line.ensures.1 in
    let writes = c.in_err-write_line.ensures.writes in
    rw (p.1, p.2) (ends_here line g.L.BlockLine.format reached _ _ _ _ _ _ _ (ends_torn line says _ _ c.args.listed.now c.args.most c.requires _ _ value _ took writes) (any_torn line says (g.R.Read.remaining c.args.input.now) _ c.args.listed.now c.args.most c.requires _ _ value _ writes))

pub returns-clause-turn : goal.returns-clause-turn
returns-clause-turn g c =
    let blocks = g.met.L.BlockLine.are_blocks in
    let line = g.L.BlockLine.line (g.L.BlockLine.setting c.args.self.now.lines) in
    let here = state_of c.args.self.now.parser in
    let there = state_of c.read_block.new.self in
    let kept = g.L.BlockLine.kept c.args.self.now.lines in
    let item = item_of there c.in-Some.block in
    let reads = rw c.in-Some.is at c.in_ok-block.ensures.reads in
    let took = value_taken blocks here kept _ _ item reads.1.1 in
    let wrote = c.in_ok-write_line.ensures in
    let goes = blocks.goes here kept item ∙ ap (g.L.BlockLine.reached there) (sym wrote.keeps) in
    turn_more line g.L.BlockLine.format blocks.lawful _ _ _ _ _ _ c.args.listed.now _ took goes wrote.writes

use Rattle.std.proofs.Common.{ap, sym}
use Rattle.std.proofs.KnownBytes.{Keeps-refl}
use Rattle.std.proofs.lemmas.Result.{err_from_is_err_and}
use Rattle.pcap_blocks.specs.SectionHeader.{section_of}
use Rattle.pcap_ng.specs.Parser.{state_of}
use Rattle.capcopy_run.specs.BlockLines.{block_lines, section_line}
use Rattle.capcopy_run.proofs.Listing.{lists_none}
use Rattle.capcopy_run.proofs.BlockLists.{section_torn, blocks_known}
use Rattle.capcopy_run.proofs.blocks.blocks.Goals as goal

pub returns-in_err-parser-clause-lists : goal.returns-in_err-parser-clause-lists
returns-in_err-parser-clause-lists g c =
    let p = err_from_is_err_and c.from_residual.result c.from_residual.ensures.1 in
    rw p.1 (lists_none block_lines c.args.most (g.R.Read.remaining c.args.input.now) _ _ _ (Keeps-refl _) c.in_err-parser.ensures.asked _ (λ memory. tt) c.in_err-parser.ensures.refused p.0 p.2)

pub returns-in_err-write_section-clause-lists : goal.returns-in_err-write_section-clause-lists
returns-in_err-write_section-clause-lists g c =
    let p = err_from_is_err_and c.from_residual-in_err-write_section.result c.from_residual-in_err-write_section.ensures.1 in
    rw (p.1, p.2) (section_torn (state_of c.in_ok-parser.parser) (section_of c.section.result.now) (ap section_line (sym c.section.ensures)) (g.R.Read.remaining c.args.input.now) (g.R.Read.remaining c.from_reader.new.reader) _ _ c.in_ok-parser.ensures.takes c.args.most _ c.in_err-write_section.ensures)

pub returns-clause-lists : goal.returns-clause-lists
returns-clause-lists g c =
    blocks_known (state_of c.in_ok-parser.parser) (section_of c.section.result.now) (ap section_line (sym c.section.ensures)) (g.R.Read.remaining c.args.input.now) (g.R.Read.remaining c.from_reader.new.reader) _ _ c.in_ok-parser.ensures.takes c.in_ok-write_section.ensures c.args.most _ _ c.list_items.result c.list_items.ensures.lists

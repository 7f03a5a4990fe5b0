use Rattle.std.proofs.KnownBytes.{Keeps-refl}
use Rattle.std.proofs.lemmas.Result.{err_from_is_err_and}
use Rattle.pcap_ng.specs.Parser.{state_of}
use Rattle.capcopy_run.proofs.Listing.{lists_none}
use Rattle.pcapfile_list.specs.FileLines.{stored_lines}
use Rattle.pcapfile_list.proofs.StoredLists.{stored_known}
use Rattle.pcapfile_list.proofs.packets.list_stored.Goals as goal

pub returns-in_err-parser : goal.returns-in_err-parser
returns-in_err-parser g c =
    let p = err_from_is_err_and c.from_residual.result c.from_residual.ensures.1 in
    rw p.1 (lists_none (stored_lines c.args.form) c.args.most (g.R.Read.remaining c.args.input.now) _ _ _ (Keeps-refl _) c.in_err-parser.ensures.asked _ (λ memory. tt) c.in_err-parser.ensures.refused p.0 p.2)

pub returns : goal.returns
returns g c =
    stored_known c.args.form (state_of c.in_ok-parser.parser) (g.R.Read.remaining c.args.input.now) (g.R.Read.remaining c.from_reader.new.reader) _ c.in_ok-parser.ensures.takes c.args.most _ _ c.list_items.result c.list_items.ensures.lists

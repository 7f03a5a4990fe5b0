use Rattle.std.proofs.Common.{◌∙◌, [], false, length, map, ap, sym}
use Rattle.std.specs.Prelude.{◌==◌, not, option_map}
use Rattle.std.proofs.KnownBytes.{Appends-nil, Keeps-refl}
use Rattle.std.proofs.lemmas.List.{length-map}
use Rattle.std.proofs.lemmas.Result.{err_from_is_err_and}
use Rattle.pcap_blocks.specs.ParsedBlock.{body_of as body_shown}
use Rattle.pcap_tolerant_blocks.specs.Flaws.{said_of}
use Rattle.pcap_tolerant_captures.specs.ReaderAsIs.{lent_item, state_of}
use Rattle.pcapfile_as_is.specs.BlockLists.{IsListed, IsListedBody, described, unnumbered}
use Rattle.pcapfile_as_is.proofs.ListedBlocks.{no_packet, one_packet}
use Rattle.pcapfile_as_is.proofs.Tellings.{told_as}
use Rattle.pcapfile_as_is.proofs.block_listed.BlockPacketLinesBlockTeller.put.Goals as goal

pub returns-in_err-body_lent-clause-writes : goal.returns-in_err-body_lent-clause-writes
returns-in_err-body_lent-clause-writes g c =
    let p = err_from_is_err_and c.from_residual.result c.from_residual.ensures.1 in
    rw (p.1, p.2) (unnumbered false, Keeps-refl (g.W.Write.contents c.args.output.now))

pub returns-in-None-clause-writes : goal.returns-in-None-clause-writes
returns-in-None-clause-writes g c =
    let item = lent_item c.args.reader.now c.args.lent.now in
    let none = rw c.in-None.is at c.in_ok-body_lent.ensures in
    let count = ap (λ l. not (length l == 0)) c.as_slice.ensures.value ∙ ap (λ n. not (n == 0)) (sym (length-map c.args.lent.now.flaws.items said_of)) in
    ([], no_packet c.args.at.number c.args.at.place item _ none (ap unnumbered (ap not c.is_empty.ensures ∙ count)), Appends-nil (g.W.Write.contents c.args.output.now))

pub returns-in-Some-clause-writes : goal.returns-in-Some-clause-writes
returns-in-Some-clause-writes g c =
    let item = lent_item c.args.reader.now c.args.lent.now in
    let held = c.in-Some.held in
    let body = option_map body_shown held.body in
    let flaws = map said_of held.flaws.items in
    let holds = rw c.in-Some.is at c.in_ok-body_lent.ensures in
    told_as (IsListedBody (described (state_of c.args.reader.now)) c.args.at.number body flaws) (IsListed c.args.at.number c.args.at.place item) (one_packet c.args.at.number c.args.at.place item body flaws holds)
    (g.W.Write.contents c.args.output.now) (g.W.Write.contents c.put_held.new.output) c.put_held.result c.put_held.ensures

use Rattle.std.proofs.Common.{Err, map, refl}
use Rattle.std.specs.Prelude.{option_map}
use Rattle.std.proofs.lemmas.Result.{err_from_is_err_and}
use Rattle.pcap_blocks.specs.ParsedBlock.{body_of}
use Rattle.pcap_tolerant_blocks.specs.Flaws.{said_of}
use Rattle.pcap_tolerant_blocks.specs.InForce.{known}
use Rattle.pcap_tolerant_captures.specs.ReaderAsIs.{state_of}
use Rattle.pcapfile_as_is.specs.BlockLists.{IsListedBody, IsMarkedLine, described, packet_as_is}
use Rattle.pcapfile_as_is.specs.Counts.{are_some}
use Rattle.pcapfile_as_is.specs.Texts.{numbered}
use Rattle.pcapfile_as_is.proofs.Tellings.{writes_as}
use Rattle.pcapfile_as_is.proofs.block_listed.put_held.Goals as goal

pub returns-in_err-put_line_of : goal.returns-in_err-put_line_of
returns-in_err-put_line_of g c =
    let interfaces = described (state_of c.args.reader.now) in
    let body = option_map body_of c.args.held.now.body in
    let flaws = map said_of c.args.held.now.flaws.items in
    let number = c.args.number in
    let told = numbered (are_some flaws) in
    let p = err_from_is_err_and c.from_residual.result c.from_residual.ensures.1 in
    rw (p.1, p.2) (
      told,
      writes_as (IsMarkedLine interfaces number (packet_as_is (known 0 interfaces) body) flaws) (IsListedBody interfaces number body flaws told) (λ line is. (refl, is)) (g.W.Write.contents c.args.output.now) (g.W.Write.contents c.put_line_of.new.output)
          (Err c.in_err-put_line_of.field-0.0) c.in_err-put_line_of.ensures,
    )

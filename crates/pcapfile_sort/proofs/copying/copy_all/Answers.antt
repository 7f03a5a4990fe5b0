use Rattle.std.proofs.Common.{◌<◌, ◌∙◌, [], ◌∷◌, ◌++◌, length, arith}
use Rattle.pcapfile_sort.proofs.CopiedRecords.{copied_next, stops_next, went_more}
use Rattle.pcapfile_sort.proofs.copying.copy_all.Goals as goal

pub returns-in-Err : goal.returns-in-Err
returns-in-Err g c =
    let l = c.loop-entry in
    let Is = g.C.Records.format.Is (g.C.Records.opening c.args.records.now) in
    let less : l.entry-index < length c.args.entries.now = omega (arith, c.loop-entry-test.true, l.auto.entry-index-end) in
    stops_next Is (g.S.ReadAgain.bytes c.args.again.now) c.args.entries.now l.entry-index _ _ (g.W.Write.contents c.args.output.now) (g.W.Write.contents l.output) (g.W.Write.contents c.copy_record.new.output) c.in-Err.stop
    l.invariant.copies (g.S.ReadAgain.bytes l.again) l.invariant.same less l.invariant.copied l.invariant.went c.in-Err.ensures.copies

pub loop-entry-preserved : goal.loop-entry-preserved
loop-entry-preserved g c =
    let l = c.loop-entry in
    let Is = g.C.Records.format.Is (g.C.Records.opening c.args.records.now) in
    let again = g.S.ReadAgain.bytes c.args.again.now in
    let less : l.entry-index < length c.args.entries.now = omega (arith, c.loop-entry-test.true, l.auto.entry-index-end) in
    let one = c.in-Ok.ensures.copies in
    record {
      copies = l.invariant.copies ++ one.0 ∷ [];
      copied = copied_next Is again c.args.entries.now l.entry-index _ l.invariant.copies one.0 (g.S.ReadAgain.bytes l.again) l.invariant.same less l.invariant.copied one.1;
      went = went_more Is again (g.W.Write.contents c.args.output.now) (g.W.Write.contents l.output) (g.W.Write.contents c.copy_record.new.output) l.invariant.copies one.0 l.invariant.went one.2;
      same = c.in-Ok.ensures.same ∙ l.invariant.same;
    }

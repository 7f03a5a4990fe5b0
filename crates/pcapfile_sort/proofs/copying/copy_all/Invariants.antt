use Rattle.std.proofs.Common.{◌≡◌, List, take}
use Rattle.std.specs.Io.KnownBytes.{Appends}
use Rattle.pcapfile_sort.specs.Copying.{AreCopies}
use Rattle.pcapfile_sort.specs.Ranked.{Ranked, texts_of}
use Rattle.pcapfile_sort.proofs.copying.copy_all.Given as goal

abbrev pub invariant-loop-entry : goal.invariant-loop-entry
invariant-loop-entry g l = record {
  copies : List Ranked;
  copied : AreCopies (g.C.Records.format.Is (g.C.Records.opening l.records)) (g.S.ReadAgain.bytes l.fn.again) (take l.entry-index l.entries) copies;
  went : Appends (g.W.Write.contents l.fn.output) (g.W.Write.contents l.output) (texts_of copies);
  same : g.S.ReadAgain.bytes l.again ≡ g.S.ReadAgain.bytes l.fn.again;
}

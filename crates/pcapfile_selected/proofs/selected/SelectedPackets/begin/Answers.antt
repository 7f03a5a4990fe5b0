use Rattle.std.proofs.Common.{rules}
use Rattle.pcapfile_selected.proofs.selected.SelectedPackets.begin.Goals as goal

pub returns-clause-begins : goal.returns-clause-begins
returns-clause-begins g c = record {
  source = c.in_ok-source.source;
  opens = search rules;
  begins = rw c.requires at c.in_ok-cutter.ensures.begins;
  kept = search rules;
  opening = search rules;
}

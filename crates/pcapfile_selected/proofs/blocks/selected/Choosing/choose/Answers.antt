use Rattle.std.proofs.Common.{rules}
use Rattle.pcap_ng.specs.Frames.{framed_of}
use Rattle.pcapfile_selected.proofs.PutPackets.{decided}
use Rattle.pcapfile_selected.proofs.blocks.selected.Choosing.choose.Goals as goal

pub returns-clause-chooses : goal.returns-clause-chooses
returns-clause-chooses c = record {
  decision = c.in_ok-decision.decision;
  first = search rules;
  decides = decided _ _ _ _ _ _ _ _ (framed_of c.args.lent.block.now) _ c.in_ok-decision.ensures.tests c.in_ok-note_first.ensures.recent (search rules) c.in_ok-decision.ensures.decides;
  chosen = search rules;
  exceptions = search rules;
  asked = search rules;
  changing = search rules;
  packets = search rules;
  bytes = search rules;
  duplicates = search rules;
  write_failed = search rules;
}

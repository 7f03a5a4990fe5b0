use Rattle.pcap_file.specs.Placing.{source_of}
use Rattle.pcapfile_merge.specs.Keeping.{progress_with}
use Rattle.pcapfile_merge.proofs.Turning.{Passed}
use Rattle.pcapfile_merge.proofs.stored.pass_to_giver.Given as goal

abbrev pub invariant-loop-turn : goal.invariant-loop-turn
invariant-loop-turn g l = Passed (progress_with l.fn.kept (source_of g.R.Read.remaining l.fn.reader)) (progress_with l.kept (source_of g.R.Read.remaining l.reader)) l.turn

use Rattle.std.proofs.Common.{◌≡◌, false}
use Rattle.pcap_ng.specs.Reader.{is_done, state_of, stream_of}
use Rattle.pcapfile_sort.proofs.KeptBlocks.{Kept}
use Rattle.pcapfile_sort.proofs.blocks.read_blocks.Given as goal

abbrev pub invariant-loop-turn : goal.invariant-loop-turn
invariant-loop-turn g l = record {
  kept : Kept (state_of l.fn.reader) (g.R.Read.remaining (stream_of l.fn.reader)) l.fn.kept (state_of l.reader) (g.R.Read.remaining (stream_of l.reader)) l.kept l.turn;
  ready : is_done l.reader ≡ false;
}

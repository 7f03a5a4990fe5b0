use Rattle.std.proofs.Common.{◌≡◌, false}
use Rattle.pcap_tolerant_captures.specs.Blocks.{as_is_format}
use Rattle.pcap_tolerant_captures.specs.ReaderAsIs.{state_of, stream_of, has_failed, is_done}
use Rattle.pcapfile_as_is.specs.Counts.{block_size}
use Rattle.pcapfile_as_is.specs.Texts.{Telling}
use Rattle.pcapfile_as_is.proofs.block_telling.tell_blocks.Given as goal

abbrev pub invariant-loop-turn : goal.invariant-loop-turn
invariant-loop-turn g l =
    let reader = l.fn.reader in
    let setting = g.P.BlockTeller.setting l.fn.teller in
    record {
      telling : Telling as_is_format (state_of reader) block_size (g.P.BlockTeller.is_told setting) (state_of l.reader) (g.T.Read.remaining (stream_of reader)) (g.T.Read.remaining (stream_of l.reader))
          (g.W.Write.contents l.fn.output) (g.W.Write.contents l.output) l.fn.counted l.counted l.turn;
      ready : is_done l.reader ≡ false;
      unfailed : has_failed l.reader ≡ false;
      setting : g.P.BlockTeller.setting l.teller ≡ setting;
    }

use Rattle.std.proofs.Common.{◌≡◌, false}
use Rattle.pcap_tolerant_captures.specs.Blocks.{as_is_format}
use Rattle.pcap_tolerant_captures.specs.Outlines.{known_order}
use Rattle.pcap_tolerant_captures.specs.ReaderAsIs.{state_of, stream_of, has_failed, is_done}
use Rattle.pcap_tolerant_captures.specs.State.{State}
use Rattle.pcapfile_as_is.specs.BlockLines.{block_lines}
use Rattle.pcapfile_as_is.specs.Counts.{block_size, is_flawed}
use Rattle.pcapfile_as_is.specs.Texts.{Telling, TellsBy}
use Rattle.pcapfile_as_is.proofs.flaw_telling.tell_flaws.Given as goal

abbrev pub invariant-loop-turn : goal.invariant-loop-turn
invariant-loop-turn g l =
    let reader = l.fn.reader in
    record {
      telling : (q : State) → known_order q ≡ known_order (state_of reader) → (p : State) × (known_order p ≡ known_order (state_of l.reader))
          × Telling as_is_format q block_size (TellsBy is_flawed (block_lines l.fn.prefix)) p (g.T.Read.remaining (stream_of reader)) (g.T.Read.remaining (stream_of l.reader)) (g.W.Write.contents l.fn.output) (g.W.Write.contents l.output)
          l.fn.counted l.counted l.turn;
      ready : is_done l.reader ≡ false;
      unfailed : has_failed l.reader ≡ false;
    }

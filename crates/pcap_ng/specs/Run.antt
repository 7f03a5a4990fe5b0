-- The result of a run over a whole slice.
use Rattle.std.specs.Prelude.{◌≡◌, ◌+◌, ℕ, List, length, map}
use Rattle.pcap_items.specs.Run.{IsRest}
use Rattle.pcap_ng.specs.declared.run.NgRun.{NgRun}
use Rattle.pcap_ng.specs.Front.{NgFront}
use Rattle.pcap_ng.specs.Frames.{framed_of}
use Rattle.pcap_ng.specs.Blocks.{block_format}
use Rattle.pcap_ng.specs.Parser.{state_of}

-- IsRun run s: the run is the front of s, with its blocks after the first, the state after them, its length, and the verdict of
-- the rest.
pub record IsRun (run : NgRun) (s : List ℕ) : Type 0 where
  pub left : List ℕ
  pub front : NgFront (state_of run.parser) (map framed_of run.blocks.items) s left
  pub used : run.used + length left ≡ length s
  pub rest : IsRest (block_format.says (state_of run.parser)) left run.rest

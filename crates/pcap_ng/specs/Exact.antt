-- The result of a run over a capture that shows exactly the bytes that the parser requests.
use Rattle.std.specs.Prelude.{◌≡◌, ◌≤◌, ◌+◌, ◌*◌, ℕ, List, ◌∷◌, ◌++◌, length}
use Rattle.pcap_items.specs.Requested.{RunRequests, AsksItem}
use Rattle.pcap_ng.specs.declared.run.NgRun.{NgRun}
use Rattle.pcap_ng.specs.Blocks.{block_format}
use Rattle.pcap_ng.specs.Run.{IsRun}
use Rattle.pcap_ng.specs.State.{opening}

-- IsExact run count s earlier now: the run is the run over s, and `now` is the earlier requests and then the run's own. `count`
-- is the number of its requests, including those for the first block: at most two a block, and four ('General Block Structure').
pub record IsExact (run : NgRun) (count : ℕ) (s earlier now : List ℕ) : Type 0 where
  pub run_is : IsRun run s
  pub requests : List ℕ
  pub asked : RunRequests block_format opening (run_is.front.first ∷ run_is.front.items) s run_is.left requests
  pub grown : now ≡ earlier ++ requests
  pub counted : count ≡ length requests
  pub few : count ≤ 2 * length run.blocks.items + 4

-- AsksFirst s earlier now: `now` is the earlier requests and then exactly those for the first block of s.
abbrev pub AsksFirst : List ℕ → List ℕ → List ℕ → Type 0
AsksFirst s earlier now = (count : ℕ) × AsksItem block_format opening s earlier now 0 count

-- The result of a run over bytes that are shown exactly as they are requested, for any format.
use Rattle.std.specs.Prelude.{◌≡◌, ◌≤◌, ◌+◌, ℕ, List, ◌++◌, length, map, drop}
use Rattle.pcap_items.specs.declared.run.items.Ended.{Ended}
use Rattle.pcap_core.specs.Faults.{Fault}
use Rattle.pcap_items.specs.Format.{Format, state_after}
use Rattle.pcap_items.specs.Items.{EndsWith}
use Rattle.pcap_items.specs.Requested.{RunRequests}

-- ExactItems: ws are the kept parts of the items in the bytes from `start` to `used`, which lead from one state to the next, and `ended`
-- is the rest. The requests for all of it follow the earlier ones, and the count grew from `first` by their number.
pub record ExactItems {E S V W : Type 0} (f : Format S V) (part : V → W)
    (ShowsIt : E → Fault → Type 0) (q next : S) (ws : List W) (bytes : List ℕ) (start used : ℕ) (ended : Ended E)
    (earlier now : List ℕ) (first count : ℕ) : Type 0 where
  pub values : List V
  pub requests : List ℕ
  pub asked : RunRequests f q values (drop start bytes) (drop used bytes) requests
  pub parts : map part values ≡ ws
  pub state_is : state_after f q values ≡ next
  pub within : used ≤ length bytes
  pub ends : EndsWith ShowsIt (f.says next) (drop used bytes) ended
  pub grown : now ≡ earlier ++ requests
  pub counted : count ≡ first + length requests

-- The results of a parser of items, and of a run over items, for any format.
use Rattle.std.specs.Prelude.{◌≡◌, ◌<◌, ◌+◌, ◌⊎◌, ℕ, List, [], ◌++◌, length, map, Result, Ok, Err}
use Rattle.std.specs.Borrow.{Bor}
use Rattle.std.specs.declared.alloc.AllocError.{AllocError}
use Rattle.pcap_core.specs.declared.errors.PcapError.{PcapError}
use Rattle.pcap_items.specs.declared.rest.Rest.{Rest}
use Rattle.pcap_items.specs.declared.rest.Rest.TheVariants as rests
use Rattle.pcap_items.specs.declared.run.found.Found.{Found}
use Rattle.pcap_items.specs.declared.run.found.Found.TheVariants as found
use Rattle.pcap_items.specs.declared.run.items.Ended.{Ended}
use Rattle.pcap_items.specs.declared.run.items.Ended.TheVariants.{Clean, Needs, Refused}
use Rattle.pcap_core.specs.Answer.{Verdict, whole, lacks, faulty}
use Rattle.pcap_core.specs.Faults.{Fault, Shows}
use Rattle.pcap_items.specs.Format.{Format, Texts, state_after}

-- ShowsFault error fault: the error shows this fault.
abbrev pub ShowsFault : PcapError → Fault → Type 0
ShowsFault error fault = Shows (λ shown. shown ≡ fault) error

-- ShowsSaid ShowsIt IsSaid error: the error shows a fault that is a verdict of IsSaid.
abbrev pub ShowsSaid : {E V : Type 0} → (E → Fault → Type 0) → (Verdict V → Type 0) → E → Type 0
ShowsSaid ShowsIt IsSaid error = (fault : Fault) × ShowsIt error fault × IsSaid (faulty fault)

-- LeadsBy f part q next w s after: s begins with an item whose kept part is w and which leads from q to next, and `after` follows it.
pub record LeadsBy {S V W : Type 0} (f : Format S V) (part : V → W) (q next : S) (w : W) (s after : List ℕ) : Type 0 where
  pub value : V
  pub text : f.says q s (whole value after)
  pub goes : next ≡ f.goes q value
  pub part_is : w ≡ part value

-- LeadsTo f part q next ws s left: s is items whose kept parts are ws and which lead from q to next, followed by left.
pub record LeadsTo {S V W : Type 0} (f : Format S V) (part : V → W) (q next : S) (ws : List W) (s left : List ℕ) : Type 0 where
  pub values : List V
  pub texts : Texts f q values s left
  pub parts : map part values ≡ ws
  pub state_is : state_after f q values ≡ next

-- FoundAt: what was found at the front of s: an item, seen by `view`, with what follows it; or missing bytes or a fault, and the state is
-- unchanged.
abbrev pub FoundAt : {X E S V W : Type 0} → Format S V → (V → W) → (X → W) → (E → Fault → Type 0) → S → S → List ℕ → (X → List ℕ) → Found X E → Type 0
FoundAt f part view ShowsIt q next s after (found.Item x) = LeadsBy f part q next (view x) s (after x)
FoundAt f part view ShowsIt q next s after (found.Needs n) = (next ≡ q) × f.says q s (lacks n)
FoundAt f part view ShowsIt q next s after (found.Refused error) = (next ≡ q) × ShowsSaid ShowsIt (f.says q s) error

-- FindsItem: the result of a parser where an item is expected. It runs out of memory only where Grows holds.
abbrev pub FindsItem : {X E S V W : Type 0} → Format S V → (V → W)
    → (X → W) → (E → Fault → Type 0) → (S → List ℕ → Type 0) → S → S → List ℕ → Result (Found (Bor (List ℕ) × X) E) AllocError → Type 0
FindsItem f part view ShowsIt Grows q next s (Ok told) = FoundAt f part (λ x. view x.1) ShowsIt q next s (λ x. x.0.now) told
FindsItem f part view ShowsIt Grows q next s (Err error) = Grows q s

-- EndsWith: what follows the last item: nothing, a truncated item, or bytes with a fault.
abbrev pub EndsWith : {E V : Type 0} → (E → Fault → Type 0) → (List ℕ → Verdict V → Type 0) → List ℕ → Ended E → Type 0
EndsWith ShowsIt IsSaid left Clean = left ≡ []
EndsWith ShowsIt IsSaid left (Needs n) = IsSaid left (lacks n) × (0 < length left)
EndsWith ShowsIt IsSaid left (Refused error) = ShowsSaid ShowsIt (IsSaid left) error

-- rest_of gives the end of a run as a rest.
abbrev pub rest_of : Ended PcapError → Rest
rest_of Clean = rests.Clean
rest_of (Needs n) = rests.Needs n
rest_of (Refused error) = rests.Refused error

-- RunsTo: ws are the kept parts of the items at the front of s, which use `used` bytes, and `ended` is what follows them.
pub record RunsTo {E S V W : Type 0} (f : Format S V) (part : V → W)
    (ShowsIt : E → Fault → Type 0) (q next : S) (ws : List W) (s : List ℕ) (used : ℕ) (ended : Ended E) : Type 0 where
  pub left : List ℕ
  pub leads : LeadsTo f part q next ws s left
  pub used_is : used + length left ≡ length s
  pub ends : EndsWith ShowsIt (f.says next) left ended

-- GrowsIn: items are at the front of s, and something grows: the list of items, since there is one, or what the parser keeps, at a front
-- of the bytes after them.
pub record GrowsIn {S V : Type 0} (f : Format S V) (Grows : S → List ℕ → Type 0) (q : S) (s : List ℕ) : Type 0 where
  pub values : List V
  pub left : List ℕ
  pub texts : Texts f q values s left
  pub why : (0 < length values) ⊎ ((t : List ℕ) × (more : List ℕ) × (left ≡ t ++ more) × Grows (state_after f q values) t)

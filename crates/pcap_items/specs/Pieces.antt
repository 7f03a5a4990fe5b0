-- The knowledge about a capture that arrives in pieces, for any format.
use Rattle.std.specs.Prelude.{◌≡◌, ◌+◌, ◌⊎◌, ℕ, List, [], ◌∷◌, ◌++◌, ⊤, length, Result, Ok, Err}
use Rattle.std.specs.Borrow.{Bor}
use Rattle.std.specs.List.{flat_map}
use Rattle.pcap_core.specs.declared.errors.PcapError.{PcapError}
use Rattle.pcap_items.specs.declared.rest.Rest.{Rest}
use Rattle.pcap_items.specs.declared.run.pieces.Progress.{Progress}
use Rattle.pcap_items.specs.declared.run.pieces.Progress.TheVariants.{Before, Within}
use Rattle.pcap_core.specs.Answer.{Verdict, whole, lacks, faulty, Refuses}
use Rattle.pcap_items.specs.Format.{Format, Front}
use Rattle.pcap_items.specs.Items.{LeadsBy, LeadsTo}
use Rattle.pcap_core.specs.Laws.{ExactlyOne, IsStable}
use Rattle.pcap_items.specs.Run.{IsRest}

-- joined_pieces gives the bytes of all pieces, joined.
abbrev pub joined_pieces : List (Bor (List ℕ)) → List ℕ
joined_pieces pieces = flat_map (λ piece. piece.now) pieces

-- AfterEach Holds before pieces ns: ns has a number for each piece, and Holds is true of all bytes up to the end of the piece and its
-- number.
abbrev pub AfterEach : (List ℕ → ℕ → Type 0) → List ℕ → List (Bor (List ℕ)) → List ℕ → Type 0
AfterEach Holds before [] [] = Unit {0}
AfterEach Holds before [] (n ∷ ns) = ⊥
AfterEach Holds before (piece ∷ pieces) [] = ⊥
AfterEach Holds before (piece ∷ pieces) (n ∷ ns) = Holds (before ++ piece.now) n × AfterEach Holds (before ++ piece.now) pieces ns

-- IsOpening opens: any bytes have exactly one verdict as the opening of a capture. More bytes change neither an opening nor a
-- fault, and what follows an opening is the end of the bytes.
pub record IsOpening {S : Type 0} (opens : List ℕ → Verdict S → Type 0) : Type 0 where
  pub one : (s : List ℕ) → ExactlyOne (opens s)
  pub stable : IsStable opens
  pub ends : (s rest : List ℕ) (q : S) → opens s (whole q rest) → (t : List ℕ) × (s ≡ t ++ rest)

-- OpensNone opens s: nothing at the front of s opens a capture.
abbrev pub OpensNone : {S : Type 0} → (List ℕ → Verdict S → Type 0) → List ℕ → Type 0
OpensNone {S = S} opens s = (q : S) (after : List ℕ) → opens s (whole q after) → ⊥

-- HoldsItems opens f s n: s opens a capture whose front has n items, or it opens none and n is 0.
abbrev pub HoldsItems : {S V : Type 0} → (List ℕ → Verdict S → Type 0) → Format S V → List ℕ → ℕ → Type 0
HoldsItems {S = S} {V = V} opens f s n =
    ((first : S) × (after : List ℕ) × (vs : List V) × (rest : List ℕ) × opens s (whole first after) × Front f first vs after rest × (n ≡ length vs))
    ⊎ (OpensNone opens s × (n ≡ 0))

-- Reaches opens f part q ws s left: s is the opening of a capture, then items with the kept parts ws, after which q is the state, and
-- then left.
pub record Reaches {S V W : Type 0} (opens : List ℕ → Verdict S → Type 0) (f : Format S V) (part : V → W) (q : S) (ws : List W) (s left : List ℕ) : Type 0 where
  pub first : S
  pub after : List ℕ
  pub opening : opens s (whole first after)
  pub leads : LeadsTo f part first q ws after left

-- IsFed: the bytes s came. If nothing opens a capture yet, all of them are held. Otherwise the held bytes follow the items, and begin no
-- item.
abbrev pub IsFed : {P S V W : Type 0} → (List ℕ → Verdict S → Type 0) → Format S V → (V → W) → (P → S) → List ℕ → Progress P → List ℕ → List W → Type 0
IsFed opens f part state s (Before error) held ws = (held ≡ s) × (ws ≡ []) × Refuses ⊥ (λ n. opens s (lacks n)) (λ fault. opens s (faulty fault)) error
IsFed opens f part state s (Within parser rest) held ws = Reaches opens f part (state parser) ws s held × IsRest (f.says (state parser)) held rest

-- Came is IsFed without a claim about the held bytes, which may begin an item.
abbrev pub Came : {P S V W : Type 0} → (List ℕ → Verdict S → Type 0) → Format S V → (V → W) → (P → S) → List ℕ → Progress P → List ℕ → List W → Type 0
Came opens f part state s (Before error) held ws = (held ≡ s) × (ws ≡ [])
Came opens f part state s (Within parser rest) held ws = Reaches opens f part (state parser) ws s held

-- IsFedUpTo: of the bytes s, `used` bytes were used for the opening and the items, after which q is the state and `rest` is the rest.
pub record IsFedUpTo {S V W : Type 0} (opens : List ℕ → Verdict S → Type 0)
    (f : Format S V) (part : V → W) (q : S) (s : List ℕ) (rest : Rest) (used : ℕ) (ws : List W) : Type 0 where
  pub left : List ℕ
  pub reaches : Reaches opens f part q ws s left
  pub rest_is : IsRest (f.says q) left rest
  pub used_is : used + length left ≡ length s

-- TakesFront: the result of a parser where an item is expected. It is an item and what follows it; or missing bytes or a fault, and the
-- state is unchanged; or out of memory.
abbrev pub TakesFront : {X S V W : Type 0} → Format S V → (V → W) → (X → W) → S → S → List ℕ → Result (Bor (List ℕ) × X) PcapError → Type 0
TakesFront f part view q next s (Ok x) = LeadsBy f part q next (view x.1) s x.0.now
TakesFront f part view q next s (Err error) = Refuses ⊤ (λ n. (next ≡ q) × f.says q s (lacks n)) (λ fault. (next ≡ q) × f.says q s (faulty fault)) error

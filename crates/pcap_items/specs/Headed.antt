-- Formats whose items have a head. The state gives the length of a head, and the head gives the length of the item.
use Rattle.std.specs.Prelude.{◌≡◌, ◌<◌, ◌+◌, ◌⊎◌, ℕ, List, ◌++◌, length}
use Rattle.pcap_core.specs.Answer.{Verdict, whole, lacks, faulty}
use Rattle.pcap_core.specs.Faults.{Fault}
use Rattle.pcap_core.specs.Laws.{ExactlyOne}
use Rattle.pcap_items.specs.Format.{Format}

-- Piece n P s rest: s is n bytes for which P holds, followed by rest.
pub record Piece (n : ℕ) (P : List ℕ → Type 0) (s rest : List ℕ) : Type 0 where
  pub bytes : List ℕ
  pub text : s ≡ bytes ++ rest
  pub length_is : length bytes ≡ n
  pub holds : P bytes

-- A HeadReading is the reading of bytes of known length: a value, or a fault.
pub data HeadReading (X : Type 0) : Type 0 where
  good : X → HeadReading X
  bad : Fault → HeadReading X

-- A Headed is a format whose items have a head that states how many bytes follow it.
pub record Headed (S X V : Type 0) : Type 1 where
  -- the length of a head in a state
  pub head : S → ℕ
  -- the reading of a head, how many bytes follow a head, the reading of these bytes, and the state after the item
  pub reads : S → List ℕ → HeadReading X → Type 0
  pub size : X → ℕ
  pub means : S → X → List ℕ → HeadReading V → Type 0
  pub goes : S → V → S

module _ {S X V : Type 0} (g : Headed S X V) where
  abbrev pub HasHead : S → HeadReading X → List ℕ → List ℕ → Type 0
  HasHead q h s after = Piece (g.head q) (λ b. g.reads q b h) s after

  abbrev pub HasBody : S → X → HeadReading V → List ℕ → List ℕ → Type 0
  HasBody q x m s rest = Piece (g.size x) (λ b. g.means q x b m) s rest

  -- ShortSays is the verdict on bytes that are shorter than a head.
  abbrev pub ShortSays : S → List ℕ → Verdict V → Type 0
  ShortSays q s (lacks n) = (0 < n) × (length s + n ≡ g.head q)
  ShortSays q s (whole v rest) = ⊥
  ShortSays q s (faulty fault) = ⊥

  -- BadSays is the verdict where a head has a fault.
  abbrev pub BadSays : S → List ℕ → Verdict V → Type 0
  BadSays q s (faulty fault) = (after : List ℕ) × HasHead q (bad fault) s after
  BadSays q s (lacks n) = ⊥
  BadSays q s (whole v rest) = ⊥

  -- BehindSays is the verdict on the bytes after a good head.
  abbrev pub BehindSays : S → X → List ℕ → Verdict V → Type 0
  BehindSays q x s (whole v rest) = HasBody q x (good v) s rest
  BehindSays q x s (lacks n) = (0 < n) × (length s + n ≡ g.size x)
  BehindSays q x s (faulty fault) = (rest : List ℕ) × HasBody q x (bad fault) s rest

  abbrev pub HeadedSays : S → List ℕ → Verdict V → Type 0
  HeadedSays q s v = ShortSays q s v ⊎ BadSays q s v ⊎ ((x : X) × (after : List ℕ) × HasHead q (good x) s after × BehindSays q x after v)

  abbrev pub headed : Format S V
  headed = record { says = HeadedSays; goes = g.goes; head = g.head }

  -- IsHeaded: what must be shown of such a format: bytes of the right length have exactly one reading.
  pub record IsHeaded : Type 0 where
    pub some : (q : S) → 0 < g.head q
    pub heads : (q : S) (b : List ℕ) → length b ≡ g.head q → ExactlyOne (g.reads q b)
    pub bodies : (q : S) (x : X) (b : List ℕ) → length b ≡ g.size x → ExactlyOne (g.means q x b)

-- Formats: the verdict on bytes in each state, and the state after each item. The definitions serve classic and PcapNg captures alike.
use Rattle.std.specs.Prelude.{◌≡◌, ◌<◌, ◌≤◌, ◌+◌, ℕ, List, [], ◌∷◌, ◌++◌, length}
use Rattle.pcap_core.specs.Answer.{Verdict, whole, lacks}
use Rattle.pcap_core.specs.Laws.{ExactlyOne, IsStable}

-- A Format gives the verdict on bytes in a state, the state after an item, and the length of a head in a state.
pub record Format (S V : Type 0) : Type 1 where
  -- the verdict on bytes where an item is expected in a state
  pub says : S → List ℕ → Verdict V → Type 0
  -- the state after an item
  pub goes : S → V → S
  -- how many bytes determine the length of an item, in a state
  pub head : S → ℕ

module _ {S V : Type 0} (f : Format S V) where
  -- Texts q vs s rest: s is the bytes of the items vs one after another, followed by rest.
  abbrev pub Texts : S → List V → List ℕ → List ℕ → Type 0
  Texts q [] s rest = s ≡ rest
  Texts q (v ∷ vs) s rest = (after : List ℕ) × f.says q s (whole v after) × Texts (f.goes q v) vs after rest

  abbrev pub state_after : S → List V → S
  state_after q [] = q
  state_after q (v ∷ vs) = state_after (f.goes q v) vs

  -- Front q vs s rest: s is the bytes of the items vs, followed by a rest that begins with no item in the state reached.
  pub record Front (q : S) (vs : List V) (s rest : List ℕ) : Type 0 where
    pub texts : Texts q vs s rest
    pub longest : (v : V) (after : List ℕ) → f.says (state_after q vs) rest (whole v after) → ⊥

  -- Asks q ns s t: t is s followed by the bytes that were requested after it, in requests of the lengths ns, each met exactly.
  abbrev pub Asks : S → List ℕ → List ℕ → List ℕ → Type 0
  Asks q [] s t = s ≡ t
  Asks q (n ∷ ns) s t = (more : List ℕ) × f.says q s (lacks n) × (length more ≡ n) × Asks q ns (s ++ more) t

  -- IsLawful: the laws that a format must satisfy.
  pub record IsLawful : Type 0 where
    -- any bytes have exactly one verdict
    pub one : (q : S) (s : List ℕ) → ExactlyOne (f.says q s)
    -- more bytes change neither an item nor a fault, and reduce a request by their number
    pub stable : (q : S) → IsStable (f.says q)
    -- the bytes of an item without the rest are that item
    pub own : (q : S) (s rest : List ℕ) (v : V) → f.says q s (whole v rest) → (t : List ℕ) × (s ≡ t ++ rest) × f.says q t (whole v [])
    -- a request is for at least one byte; it is for the bytes that a short head lacks; and after a head it is the last one
    pub some : (q : S) → 0 < f.head q
    pub asks : (q : S) (s : List ℕ) (n : ℕ) → f.says q s (lacks n) → 0 < n
    pub short : (q : S) (s : List ℕ) (n : ℕ) → length s + n ≡ f.head q → 0 < n → f.says q s (lacks n)
    pub last : (q : S) (s more : List ℕ) (n m : ℕ) → f.head q ≤ length s → f.says q s (lacks n) → length more ≡ n → f.says q (s ++ more) (lacks m) → ⊥

-- Extends f g: each item of f is an item of g, and leads to the same state.
pub record Extends {S V : Type 0} (f g : Format S V) : Type 0 where
  pub texts : (q : S) (s rest : List ℕ) (v : V) → f.says q s (whole v rest) → g.says q s (whole v rest)
  pub goes : (q : S) (v : V) → f.goes q v ≡ g.goes q v

-- The requests of a run over bytes that are shown exactly as they are requested, for any format. They follow from the format alone,
-- without a parser.
use Rattle.std.specs.Prelude.{◌≡◌, ◌<◌, ◌+◌, ◌⊎◌, ℕ, List, [], ◌∷◌, ◌++◌, length}
use Rattle.pcap_core.specs.Answer.{whole, lacks}
use Rattle.pcap_items.specs.Format.{Format, state_after}

-- RequestsAt f q s ns: ns are the requests for one item at s, of which no byte was shown: one for a head, and one for the bytes that the
-- head lacks, if any.
pub data RequestsAt {S V : Type 0} (f : Format S V) (q : S) (s ns : List ℕ) : Type 0 where
  -- s is shorter than a head
  head_short : length s < f.head q → ns ≡ f.head q ∷ [] → RequestsAt f q s ns
  -- the head of s lacks nothing: it is a whole item, or it is refused
  head_alone : (bytes more : List ℕ) → s ≡ bytes ++ more → length bytes ≡ f.head q → ((n : ℕ) → f.says q bytes (lacks n) → ⊥)
      → ns ≡ f.head q ∷ [] → RequestsAt f q s ns
  -- the head of s lacks n bytes
  head_first : (bytes more : List ℕ) (n : ℕ) → s ≡ bytes ++ more → length bytes ≡ f.head q → f.says q bytes (lacks n)
      → ns ≡ f.head q ∷ n ∷ [] → RequestsAt f q s ns

module _ {S V : Type 0} (f : Format S V) where
  -- ItemRequests q vs s rest ns: s is the bytes of the items vs followed by rest, and ns are the requests for these items, in order.
  abbrev pub ItemRequests : S → List V → List ℕ → List ℕ → List ℕ → Type 0
  ItemRequests q [] s rest ns = (s ≡ rest) × (ns ≡ [])
  ItemRequests q (v ∷ vs) s rest ns =
      (after here further : List ℕ) × f.says q s (whole v after)
      × RequestsAt f q s here × ItemRequests (f.goes q v) vs after rest further × (ns ≡ here ++ further)

  -- RestRequests q rest ns: ns are the requests at the rest after the last item. There are none if nothing is left.
  abbrev pub RestRequests : S → List ℕ → List ℕ → Type 0
  RestRequests q rest ns = ((rest ≡ []) × (ns ≡ [])) ⊎ ((0 < length rest) × RequestsAt f q rest ns)

  -- RunRequests q vs s rest ns: ns are the requests of a run over s: those for its items, and then those at the rest.
  pub record RunRequests (q : S) (vs : List V) (s rest ns : List ℕ) : Type 0 where
    pub for_items : List ℕ
    pub at_rest : List ℕ
    pub items : ItemRequests q vs s rest for_items
    pub last : RestRequests (state_after f q vs) rest at_rest
    pub all : ns ≡ for_items ++ at_rest

-- HeadThenRest head count ns: ns are the requests for an item of `count` bytes: its head, and then the other bytes if it is longer.
abbrev pub HeadThenRest : ℕ → ℕ → List ℕ → Type 0
HeadThenRest head count ns = ((count ≡ head) × (ns ≡ head ∷ [])) ⊎ ((k : ℕ) × (0 < k) × (head + k ≡ count) × (ns ≡ head ∷ k ∷ []))

-- AsksItem f q s earlier now first count: the requests for one item at s follow the earlier ones, and the count grew from `first` by
-- their number.
pub record AsksItem {S V : Type 0} (f : Format S V) (q : S) (s earlier now : List ℕ) (first count : ℕ) : Type 0 where
  pub requests : List ℕ
  pub asked : RequestsAt f q s requests
  pub grown : now ≡ earlier ++ requests
  pub counted : count ≡ first + length requests

-- Line ends that a text-mode transfer changed, and how they are undone.
use Rattle.std.specs.Prelude.{◌≡◌, ◌==◌, ◌++◌, ◌∷◌, [], ℕ, List, Bool, true, false, if◌then◌else◌}
use Rattle.pcap_altered.specs.declared.line_ends.LineEnds.{LineEnds}

-- Whether the bytes begin with a line feed.
abbrev pub begins_with_feed : List ℕ → Bool
begins_with_feed [] = false
begins_with_feed (byte ∷ rest) = byte == 10

-- The bytes without each carriage return, which is 13, that is directly before a line feed, which is 10.
abbrev pub undone : List ℕ → List ℕ
undone [] = []
undone (byte ∷ rest) = if byte == 13 then (if begins_with_feed rest then undone rest else 13 ∷ undone rest) else byte ∷ undone rest

-- The bytes after a text-mode transfer, which puts a carriage return before each line feed.
abbrev pub transferred : List ℕ → List ℕ
transferred [] = []
transferred (byte ∷ rest) = if byte == 10 then 13 ∷ 10 ∷ transferred rest else byte ∷ transferred rest

-- The bytes are what a text-mode transfer makes of other bytes.
abbrev pub IsTransferred : List ℕ → Type 0
IsTransferred bytes = (original : List ℕ) × (transferred original ≡ bytes)

-- A carriage return if it is held back, and otherwise nothing.
abbrev pub held_back : Bool → List ℕ
held_back true = 13 ∷ []
held_back false = []

-- The bytes that are held back.
abbrev pub held_in : LineEnds → List ℕ
held_in ends = held_back ends.is_held

-- Whatever follows a piece: what was put before it, and the held bytes, the piece and what follows undone, are what is put now, and the
-- bytes that are held now and what follows undone.
abbrev pub Undoes : List ℕ → List ℕ → List ℕ → List ℕ → List ℕ → Type 0
Undoes held before piece held_now now = (next : List ℕ) → before ++ undone (held ++ (piece ++ next)) ≡ now ++ undone (held_now ++ next)

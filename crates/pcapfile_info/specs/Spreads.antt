-- The number of packets in each of a row of time spans.
use Rattle.std.specs.Prelude.{◌≡◌, ◌<◌, ◌≤◌, ◌⊎◌, ◌==◌, ◌+◌, ◌*◌, ◌/◌, ◌%◌, ℕ, List, Bool, min, max, count_by, All, Contains, slice_index}
use Rattle.pcapfile_run.specs.Passing.{counted}
use Rattle.pcapfile_info.specs.declared.spread.Spread.{Spread}

-- The instant is in the span of this number, with spans of this width.
abbrev pub lies_in : ℕ → ℕ → ℕ → Bool
lies_in width span instant = instant / width == span

-- The number of the instant's span modulo 64 is this one.
abbrev pub is_at : ℕ → ℕ → ℕ → Bool
is_at width slot instant = instant / width % 64 == slot

-- The number of packets that a row counts in the span of this number.
abbrev pub count_at : Spread → ℕ → ℕ
count_at spread span = slice_index spread.packets (span % 64)

-- The row has room for the span of this number: with it, the first and the last span are less than 64 apart.
abbrev pub HasRoom : Spread → ℕ → Type 0
HasRoom spread span = max spread.last span < min spread.first span + 64

-- Spans are a nanosecond wide, or with spans half as wide two of these instants would be at least 64 spans apart.
abbrev pub IsFine : List ℕ → ℕ → Type 0
IsFine instants width =
    (width ≡ 1) ⊎ ((half : ℕ) × (early : ℕ) × (late : ℕ) × (width ≡ half * 2)
    × Contains instants early × Contains instants late × (early / half + 64 ≤ late / half))

-- Each instant is in a span from the first to the last, both of which have one, and the counts are those of the spans.
pub record Rows (instants : List ℕ) (spread : Spread) : Type 0 where
  pub counts : (slot : ℕ) → slot < 64 → slice_index spread.packets slot ≡ counted (count_by (is_at spread.width slot) instants)
  pub within : All (λ instant. (spread.first ≤ instant / spread.width) × (instant / spread.width ≤ spread.last)) instants
  pub first : (early : ℕ) × Contains instants early × (early / spread.width ≡ spread.first)
  pub last : (late : ℕ) × Contains instants late × (late / spread.width ≡ spread.last)

-- The row counts these instants, with spans no wider than they need.
pub record Spreads (instants : List ℕ) (spread : Spread) : Type 0 where
  pub rows : Rows instants spread
  pub fine : IsFine instants spread.width

-- One step from the front of the bytes that are held.
use Rattle.std.specs.Prelude.{◌≡◌, ◌<◌, ◌≤◌, ◌+◌, ◌++◌, [], ℕ, List, length, drop, take, Option, None, Some, Bool, true, false}
use Rattle.pcap_variants.specs.Variants.{further_len, included_in}
use Rattle.pcap_variants.specs.Ahead.{Ahead}
use Rattle.pcap_variants.specs.declared.variant.Variant.{Variant}
use Rattle.pcap_variants.specs.declared.front.Step.{Step}

-- A step passes some of the bytes, and writes no more than it passes.
pub record IsWithin (step : Step) (s : List ℕ) : Type 0 where
  pub some : 0 < step.passed
  pub written : step.written ≤ step.passed
  pub passed : step.passed ≤ length s

-- After the last bytes nothing follows.
abbrev pub MayFollow : Bool → List ℕ → Type 0
MayFollow is_all next = is_all ≡ true → next ≡ []

-- Whatever follows: what is to be written is what the step writes, and then what is to be written behind it.
abbrev pub Steps : Variant → Bool → ℕ → List ℕ → Step → Type 0
Steps variant is_all left s step = (next plain : List ℕ) → MayFollow is_all next → Ahead variant left (s ++ next) plain
    → (rest : List ℕ) × (plain ≡ take step.written s ++ rest) × Ahead variant step.left (drop step.passed s ++ next) rest

-- Where nothing stays, the bytes are fewer than a head has.
pub record IsShort (variant : Variant) (left : ℕ) (s : List ℕ) : Type 0 where
  pub none : left ≡ 0
  pub short : length s < 16 + further_len variant.further

-- The result of a look at the front: a step, or none. After the last bytes there is none only if they are fewer than a head has.
abbrev pub Looks : Variant → ℕ → Bool → List ℕ → Option Step → Type 0
Looks variant left is_all s (Some step) = IsWithin step s × Steps variant is_all left s step
Looks variant left is_all s None = is_all ≡ true → IsShort variant left s

-- The result of a step over corrupt bytes. After the last bytes there is one.
abbrev pub Skips : Bool → List ℕ → Option Step → Type 0
Skips is_all s (Some step) = IsWithin step s
Skips is_all s None = is_all ≡ false

-- The result of a look at a packet's data: where packets of the variant are ahead, their stored length. After the last bytes there is one.
abbrev pub Stores : Variant → Bool → List ℕ → Option ℕ → Type 0
Stores variant is_all s (Some len) = (next plain : List ℕ) → MayFollow is_all next → Ahead variant 0 (s ++ next) plain → len ≡ included_in variant.order (take 16 s)
Stores variant is_all s None = is_all ≡ false

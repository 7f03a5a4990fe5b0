-- Lists of bytes, and bytes that are borrowed or owned.
use Rattle.std.specs.Prelude.{◌<◌, ℕ, List, All}
use Rattle.pcap_core.specs.declared.common.CowBytes.{CowBytes}
use Rattle.pcap_core.specs.declared.common.CowBytes.TheVariants.{Borrowed, Owned}

-- IsBytes s: each element of s is a byte, a number below 256.
abbrev pub IsBytes : List ℕ → Type 0
IsBytes s = All (λ byte. byte < 256) s

-- cow_bytes gives the bytes, whether they are borrowed or owned.
abbrev pub cow_bytes : CowBytes → List ℕ
cow_bytes (Borrowed s) = s.now
cow_bytes (Owned v) = v.items

-- IsBorrowed: the bytes are borrowed.
abbrev pub IsBorrowed : CowBytes → Type 0
IsBorrowed (Borrowed s) = Unit {0}
IsBorrowed (Owned v) = ⊥

-- IsOwned: the bytes are owned.
abbrev pub IsOwned : CowBytes → Type 0
IsOwned (Borrowed s) = ⊥
IsOwned (Owned v) = Unit {0}

-- The number of blocks in the beginning of a capture that comes in pieces.
use Rattle.std.specs.Prelude.{◌≡◌, ◌⊎◌, ℕ, List, length}
use Rattle.pcap_items.specs.Pieces.{OpensNone}
use Rattle.pcap_ng.specs.Frames.{Framed}
use Rattle.pcap_ng.specs.Front.{NgFront}
use Rattle.pcap_ng.specs.Opening.{OpeningSays}
use Rattle.pcap_ng.specs.State.{State}

-- HoldsBlocks s n: the front of s has n blocks after the first, or no section header begins s and n is 0.
abbrev pub HoldsBlocks : List ℕ → ℕ → Type 0
HoldsBlocks s n =
    ((q : State) × (blocks : List Framed) × (rest : List ℕ) × NgFront q blocks s rest × (n ≡ length blocks))
    ⊎ (OpensNone OpeningSays s × (n ≡ 0))

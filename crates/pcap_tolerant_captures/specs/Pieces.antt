-- The results of a lenient run over a PcapNg capture that comes in pieces.
use Rattle.std.specs.Prelude.{◌≡◌, ◌⊎◌, ℕ, List, ◌∷◌, length, Bool, true, false}
use Rattle.pcap_core.specs.declared.common.CowBytes.{CowBytes}
use Rattle.pcap_core.specs.declared.common.CowBytes.TheVariants.{Borrowed, Owned}
use Rattle.pcap_core.specs.Answer.{Verdict, Made}
use Rattle.pcap_items.specs.Format.{Format}
use Rattle.pcap_items.specs.Pieces.{OpensNone}
use Rattle.pcap_tolerant_captures.specs.declared.parser.OpenedAsIs.{OpenedAsIs}
use Rattle.pcap_tolerant_captures.specs.Blocks.{Item, AsIsSays, as_is_format}
use Rattle.pcap_tolerant_captures.specs.Run.{Seen, seen_in, seen_of, NgFrontAsIs}
use Rattle.pcap_tolerant_captures.specs.State.{State, opening, state_of}

-- The bytes are owned.
abbrev pub is_owned : CowBytes → Bool
is_owned (Borrowed s) = false
is_owned (Owned v) = true

-- The section and interfaces in force, the first block of the capture, and whether that block has a body of its own.
pub record Kept : Type 0 where
  pub state : State
  pub first : Seen
  pub owned : Bool

-- The kept values behind a first block that has a body of its own.
abbrev pub kept_by : Item → Kept
kept_by item = record { state = item.led.after; first = seen_in item; owned = true }

-- The kept values behind the first block that the code returned.
abbrev pub kept_of : OpenedAsIs → Kept
kept_of x = record { state = state_of x.parser; first = seen_of x.first; owned = is_owned x.first.block.body }

-- The answers where the bytes should begin with the first block, which is kept.
abbrev pub FirstSays : List ℕ → Verdict Kept → Type 0
FirstSays s = Made kept_by (AsIsSays opening s)

-- The format of blocks read leniently behind a first block, which is kept.
abbrev pub kept_format : Format Kept Item
kept_format = record {
  says = λ q. as_is_format.says q.state;
  goes = λ q item. record { state = as_is_format.goes q.state item; first = q.first; owned = q.owned };
  head = λ q. as_is_format.head q.state;
}

-- The front of `s` has `n` blocks after the first, or no section header begins `s` and `n` is 0.
abbrev pub HoldsBlocksAsIs : List ℕ → ℕ → Type 0
HoldsBlocksAsIs s n =
    ((q : State) × (first : Seen) × (blocks : List Seen) × (rest : List ℕ) × NgFrontAsIs q (first ∷ blocks) s rest × (n ≡ length blocks))
    ⊎ (OpensNone (AsIsSays opening) s × (n ≡ 0))

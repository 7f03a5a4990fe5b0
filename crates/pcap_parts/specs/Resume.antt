-- The blocks that are in force at a cut, and a parser that is fed with these blocks.
use Rattle.std.specs.Prelude.{◌≡◌, ℕ, List, [], ◌∷◌, ◌++◌, ◌⊎◌, ⊤, filter, map, drop}
use Rattle.pcap_core.specs.declared.errors.PcapError.{PcapError}
use Rattle.pcap_core.specs.Answer.{whole, lacks, faulty, Refuses}
use Rattle.pcap_items.specs.Format.{Format, state_after}
use Rattle.pcap_ng.specs.Blocks.{Item, block_format, BlockSays, MayGrow}
use Rattle.pcap_ng.specs.Frames.{Framed}
use Rattle.pcap_ng.specs.Sections.{is_interface, LeavesInForce}
use Rattle.pcap_ng.specs.State.{State, opening}
use Rattle.pcap_ng.specs.Opening.{OpeningSays}
use Rattle.pcap_blocks.specs.SectionHeader.{Section}
use Rattle.pcap_blocks.specs.InterfaceDescription.{Interface}

-- Fed: each slice begins with its item, in the state to which the items before it lead; any bytes may follow the item.
abbrev pub Fed : {S V : Type 0} → Format S V → S → List V → List (List ℕ) → Type 0
Fed f q [] [] = ⊤
Fed f q (v ∷ vs) (s ∷ ss) = (rest : List ℕ) × f.says q s (whole v rest) × Fed f (f.goes q v) vs ss
Fed f q _ _ = ⊥

-- The blocks that put in force what these blocks leave: the last section header and the interface descriptions after it.
abbrev pub blocks_in_force : (blocks : List Framed) (section : Section) (interfaces : List Interface) → LeavesInForce blocks section interfaces → List Framed
blocks_in_force blocks section interfaces x = x.header ∷ filter (λ (b : Framed). is_interface b.type_) x.after

-- IsFed: the first slice opens a capture, and each other slice begins with the next block; the blocks lead to this state.
pub record IsFed (s : List ℕ) (slices : List (List ℕ)) (q : State) : Type 0 where
  pub header : Item
  pub others : List Item
  pub fed : Fed block_format opening (header ∷ others) (s ∷ slices)
  pub state_is : state_after block_format opening (header ∷ others) ≡ q

-- The bytes from each of these places on.
abbrev pub from_places : List ℕ → List ℕ → List (List ℕ)
from_places bytes places = map (λ (place : ℕ). drop place bytes) places

-- RefusesHeader: the slice is refused as the first block of a capture.
abbrev pub RefusesHeader : List ℕ → PcapError → Type 0
RefusesHeader s error = Refuses (MayGrow opening s) (λ n. OpeningSays s (lacks n)) (λ fault. OpeningSays s (faulty fault)) error

-- RefusesNext: one of these slices is refused as the next block behind those before it.
pub record RefusesNext (s : List ℕ) (slices : List (List ℕ)) (error : PcapError) : Type 0 where
  pub given : List (List ℕ)
  pub slice : List ℕ
  pub others : List (List ℕ)
  pub split : slices ≡ given ++ slice ∷ others
  pub state : State
  pub fed : IsFed s given state
  pub refused : Refuses (MayGrow state slice) (λ n. BlockSays state slice (lacks n)) (λ fault. BlockSays state slice (faulty fault)) error

-- RefusesOne: the first slice is refused, or one of the others is refused behind those before it.
abbrev pub RefusesOne : List ℕ → List (List ℕ) → PcapError → Type 0
RefusesOne s slices error = RefusesHeader s error ⊎ RefusesNext s slices error

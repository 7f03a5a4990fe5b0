-- The packets that sources of blocks give from known bytes.
use Rattle.std.specs.Prelude.{◌≡◌, ℕ, List, [], ◌++◌, filter_map, Option}
use Rattle.pcap_items.specs.Format.{Front}
use Rattle.pcap_ng.specs.Blocks.{Item, block_format}
use Rattle.pcapfile_merge.specs.Keeping.{Progress}
use Rattle.pcapfile_merge.specs.Packets.{Packet}
use Rattle.pcapfile_merge.specs.TakingBlocks.{AllGive}

-- Behind where `a` is, these packets are those of the first blocks of the front of s, in order. The blocks `more` follow them in the front,
-- and then `rest`.
pub record GiveFront (numbers : List ℕ) (a : Progress) (s : List ℕ) (given : List Packet) (more : List Item) (rest : List ℕ) : Type 0 where
  pub items : List Item
  pub packets : List (Option Packet)
  pub front : Front block_format a.source.state (items ++ more) s rest
  pub gives : AllGive numbers a.kept items packets
  pub given_are : given ≡ filter_map (λ packet. packet) packets

-- The packets are those of the first blocks of the front.
abbrev pub AreOfFirst : List ℕ → Progress → List ℕ → List Packet → Type 0
AreOfFirst numbers a s given = (more : List Item) × (rest : List ℕ) × GiveFront numbers a s given more rest

-- The packets are those of all blocks of the front, and nothing is left.
abbrev pub AreOfAll : List ℕ → Progress → List ℕ → List Packet → Type 0
AreOfAll numbers a s given = GiveFront numbers a s given [] []

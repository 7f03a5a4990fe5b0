-- The places of the section header and the interface descriptions that are in force at a cut of blocks.
use Rattle.std.specs.Prelude.{◌≡◌, ◌≤◌, ◌+◌, ℕ, List, [], ◌∷◌, ◌++◌, All, length, map, drop, true, false, if◌then◌else◌}
use Rattle.std.specs.List.{AllByRecursion}
use Rattle.pcap_items.specs.Format.{Texts, state_after}
use Rattle.pcap_ng.specs.Blocks.{Item, block_format}
use Rattle.pcap_ng.specs.Frames.{Framed}
use Rattle.pcap_ng.specs.Sections.{is_interface, is_section}
use Rattle.pcap_ng.specs.State.{State, opening}
use Rattle.pcap_parts.specs.declared.cut_ng.NgCut.{NgCut}
use Rattle.pcap_parts.specs.NgParts.{places_at}

-- The number of bytes that these blocks take.
abbrev pub bytes_of : List Framed → ℕ
bytes_of [] = 0
bytes_of (b ∷ bs) = b.initial_len + bytes_of bs

-- The places of the interface descriptions among these blocks, if the first block is at this place.
abbrev pub interfaces_from : ℕ → List Framed → List ℕ
interfaces_from place [] = []
interfaces_from place (b ∷ bs) = (if is_interface b.type_ then place ∷ [] else []) ++ interfaces_from (place + b.initial_len) bs

-- StandsInForce: the last section header is at this place, behind `first` interface descriptions; those after it have these places.
pub record StandsInForce (blocks : List Framed) (header first : ℕ) (places : List ℕ) : Type 0 where
  pub before : List Framed
  pub block : Framed
  pub after : List Framed
  pub split : blocks ≡ before ++ block ∷ after
  pub is_header : is_section block.type_ ≡ true
  pub is_last : All (λ b. is_section b.type_ ≡ false) after
  pub header_is : header ≡ bytes_of before
  pub first_is : first ≡ length (interfaces_from 0 before)
  pub places_are : places ≡ interfaces_from (header + block.initial_len) after

-- IsPlaced: blocks before what is left lead to this state; it is in force at these places, among those of all interface descriptions.
pub record IsPlaced (bytes left : List ℕ) (q : State) (header first : ℕ) (places : List ℕ) : Type 0 where
  pub items : List Item
  pub texts : Texts block_format opening items bytes left
  pub leads : state_after block_format opening items ≡ q
  pub in_force : StandsInForce (map (λ (item : Item). item.block) items) header first (drop first places)
  pub all : places ≡ interfaces_from 0 (map (λ (item : Item). item.block) items)

-- TellsPlaces: the places of a cut are the places of what the blocks before it leave in force.
pub record TellsPlaces (bytes places : List ℕ) (cut : NgCut) : Type 0 where
  pub items : List Item
  pub rest : List ℕ
  pub texts : Texts block_format opening items bytes rest
  pub place : cut.at.offset + length rest ≡ length bytes
  pub in_force : StandsInForce (map (λ (item : Item). item.block) items) cut.header cut.first (places_at places cut)

-- TellAllPlaces: these are the places of all interface descriptions, at least up to the last cut; each cut has those in force there.
pub record TellAllPlaces (bytes places : List ℕ) (cuts : List NgCut) : Type 0 where
  pub items : List Item
  pub rest : List ℕ
  pub texts : Texts block_format opening items bytes rest
  pub all : places ≡ interfaces_from 0 (map (λ (item : Item). item.block) items)
  pub as_far : AllByRecursion (λ (cut : NgCut). cut.at.offset + length rest ≤ length bytes) cuts
  pub each : AllByRecursion (TellsPlaces bytes places) cuts

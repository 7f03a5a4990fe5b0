-- The choice of the source that gives the next packet.
use Rattle.std.specs.Prelude.{◌≡◌, ◌⊎◌, ℕ, List, Option, None, Some}
use Rattle.pcapfile_merge.specs.declared.choice.Best.{Best}
use Rattle.pcapfile_merge.specs.declared.choice.PacketOrder.{PacketOrder}
use Rattle.pcapfile_merge.specs.declared.packet.Pending.{Pending}
use Rattle.pcapfile_merge.specs.declared.source.Source.{Source}
use Rattle.pcapfile_merge.specs.Choices.{Choice, AllEnded}
use Rattle.pcapfile_merge.specs.Packets.{Packet, IsBeforeIn, IsEarlierIn}
use Rattle.pcapfile_merge.specs.Sources.{pending_of}

-- The result is the best so far, or the source at `place` if it holds an earlier packet.
abbrev pub BestWith : PacketOrder → Option Best → ℕ → Option Pending → Option Best → Type 0
BestWith order best place None result = result ≡ best
BestWith order None place (Some next) result = result ≡ Some (record { place = place; time = next.time })
BestWith order (Some found) place (Some next) result =
    ((IsBeforeIn order next.time found.time → ⊥) × (result ≡ Some found)) ⊎ (IsBeforeIn order next.time found.time × (result ≡ Some (record { place = place; time = next.time })))

module _ {R : Type 0} where
  -- No source holds a packet.
  abbrev pub HaveEnded : List (Source R) → Type 0
  HaveEnded = AllEnded pending_of

  -- In this order, the first of the sources whose packet is the earliest is at this place and holds this packet.
  abbrev pub IsFirst : PacketOrder → List (Source R) → ℕ → Packet → Type 0
  IsFirst order = Choice (IsEarlierIn order) pending_of

  -- Chooses order sources result: the index of the first source whose packet is the earliest in this order, or None if no source holds one.
  abbrev pub Chooses : PacketOrder → List (Source R) → Option ℕ → Type 0
  Chooses order sources None = HaveEnded sources
  Chooses order sources (Some place) = (p : Packet) × IsFirst order sources place p

  -- In one of the orders, the source at this index gives the next packet.
  abbrev pub IsChosen : List (Source R) → ℕ → Type 0
  IsChosen sources place = (order : PacketOrder) × Chooses order sources (Some place)

  -- IsNext order sources source: this is the source that gives the next packet.
  abbrev pub IsNext : PacketOrder → List (Source R) → Source R → Type 0
  IsNext order sources source = (place : ℕ) × (p : Packet) × (first : IsFirst order sources place p) × (source ≡ first.source)

  -- The best of the sources so far.
  abbrev pub IsBest : PacketOrder → List (Source R) → Option Best → Type 0
  IsBest order sources None = HaveEnded sources
  IsBest order sources (Some best) = (p : Packet) × (best.time ≡ p.time) × IsFirst order sources best.place p

-- The totals of the items of a capture.
use Rattle.std.specs.Prelude.{⊤, ◌≡◌, ◌<◌, ◌+◌, ◌==◌, ◌++◌, ◌∷◌, [], ℕ, List, Bool, true, false, Option, None, Some, length, sum_by, count_by, filter, filter_map, All, IsSomeAnd}
use Rattle.std.specs.List.{slice_index_or}
use Rattle.pcapfile_run.specs.Passing.{counted}
use Rattle.pcapfile_info.specs.declared.late.Late.{Late}
use Rattle.pcapfile_info.specs.declared.seen.Seen.{Seen}
use Rattle.pcapfile_info.specs.declared.seen.Sight.{Sight}
use Rattle.pcapfile_info.specs.declared.seen.Sight.TheVariants.{Packet, Refused, Interface, Section}
use Rattle.pcapfile_info.specs.declared.totals.Totals.{Totals}
use Rattle.pcapfile_info.specs.Others.{CountsOthers}
use Rattle.pcapfile_info.specs.Tallies.{tally_of, Tallies}

-- The packet of a sight, if it has one.
abbrev pub packet_in : Sight → Option Seen
packet_in (Packet packet) = Some packet
packet_in _ = None

-- The packets among the sights, in order.
abbrev pub packets_of : List Sight → List Seen
packets_of = filter_map packet_in

-- The item is a packet with a malformed body.
abbrev pub is_refused : Sight → Bool
is_refused Refused = true
is_refused _ = false

-- The item is a section header.
abbrev pub is_section : Sight → Bool
is_section Section = true
is_section _ = false

-- The number of interfaces that the item describes: 1 or 0.
abbrev pub interfaces_in : Sight → ℕ
interfaces_in Interface = 1
interfaces_in _ = 0

-- The interface's index is this one.
abbrev pub is_number : ℕ → Option ℕ → Bool
is_number index None = false
is_number index (Some other) = other == index

-- The packet came from the interface of this index.
abbrev pub is_by : ℕ → Seen → Bool
is_by index packet = is_number index packet.interface

-- There is no interface.
abbrev pub is_none : Option ℕ → Bool
is_none None = true
is_none (Some index) = false

-- The packet's interface isn't described.
abbrev pub is_undescribed : Seen → Bool
is_undescribed packet = is_none packet.interface

-- The interface's index, if there is one, is below n.
abbrev pub IsBelow : ℕ → Option ℕ → Type 0
IsBelow n None = ⊤
IsBelow n (Some index) = index < n

-- The totals are those of items with these sights, after `first` described interfaces.
pub record TotalsAre (first : ℕ) (sights : List Sight) (totals : Totals) : Type 0 where
  pub all : Tallies (packets_of sights) totals.all
  pub undescribed : Tallies (filter is_undescribed (packets_of sights)) totals.undescribed
  pub described : length totals.interfaces.items ≡ first + sum_by interfaces_in sights
  pub by_interface : (index : ℕ) (d : Late) → index < length totals.interfaces.items
      → Tallies (filter (is_by index) (packets_of sights)) (tally_of (slice_index_or totals.interfaces.items index d))
  pub within : All (λ packet. IsBelow (length totals.interfaces.items) packet.interface) (packets_of sights)
  pub refused : totals.refused ≡ counted (count_by is_refused sights)
  pub sections : totals.sections ≡ counted (count_by is_section sights)
  pub others : CountsOthers sights totals.others

-- The counts of packets that all came from one interface, before they are copied to that interface.
pub record AllAre (sights : List Sight) (totals : Totals) : Type 0 where
  pub all : Tallies (packets_of sights) totals.all
  pub undescribed : Tallies [] totals.undescribed
  pub described : length totals.interfaces.items ≡ 1
  pub refused : totals.refused ≡ 0
  pub sections : totals.sections ≡ 0
  pub others : CountsOthers [] totals.others

-- The counts before the copy have one more packet of the one interface.
abbrev pub AddsAlone : Seen → Totals → Totals → Type 0
AddsAlone seen old new = (sights : List Sight) → AllAre sights old → AllAre (sights ++ Packet seen ∷ []) new

-- The totals count one more item, with this sight.
abbrev pub Adds : Sight → Totals → Totals → Type 0
Adds sight old new = (first : ℕ) (sights : List Sight) → TotalsAre first sights old → TotalsAre first (sights ++ sight ∷ []) new

-- The totals are still those of the same items.
abbrev pub Stay : Totals → Totals → Type 0
Stay old new = (first : ℕ) (sights : List Sight) → TotalsAre first sights old → TotalsAre first sights new

-- The interface of a packet is one of the first n, or none.
abbrev pub IsWithin : ℕ → Sight → Type 0
IsWithin n (Packet packet) = IsBelow n packet.interface
IsWithin n _ = ⊤

-- The totals count no packet of the interface of this index.
abbrev pub HasNoPacket : Totals → ℕ → Type 0
HasNoPacket totals index = (d : Late) → (tally_of (slice_index_or totals.interfaces.items index d)).packets ≡ 0

-- The packet's interface is described, and the packet is the first one of it.
abbrev pub IsFirstBy : Totals → Seen → Type 0
IsFirstBy totals seen = IsSomeAnd seen.interface (HasNoPacket totals)

-- Another item with this sight needs memory: it describes an interface, or is the first packet of one.
abbrev pub NeedsRoom : Totals → Sight → Type 0
NeedsRoom totals Interface = ⊤
NeedsRoom totals (Packet seen) = IsFirstBy totals seen
NeedsRoom totals sight = ⊥

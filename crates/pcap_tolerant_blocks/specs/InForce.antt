-- The interfaces of a section read leniently ('Interface Description Block').
use Rattle.std.specs.Prelude.{◌≡◌, ◌++◌, ℕ, List, [], ◌∷◌, map, slice_get, Option, Some, None}
use Rattle.std.specs.Option.{option_map}
use Rattle.pcap_core.specs.Answer.{Order}
use Rattle.pcap_times.specs.declared.clock.Timestamp.{Timestamp}
use Rattle.pcap_blocks.specs.InterfaceDescription.{Interface, interface_of}
use Rattle.pcap_blocks.specs.InterfaceTimes.{IsTimeAt}
use Rattle.pcap_tolerant_blocks.specs.Flaws.{Said}
use Rattle.pcap_tolerant_blocks.specs.InterfaceAsIs.{InterfaceText}
use Rattle.pcap_tolerant_blocks.specs.declared.in_force.InterfacesAsIs.{InterfacesAsIs}

-- The interfaces so far, of which some may have no head.
abbrev pub in_force : InterfacesAsIs → List (Option Interface)
in_force x = map (option_map interface_of) x.interfaces.items

-- The interface that is there, if there is one.
abbrev pub if_there : Option (Option Interface) → Option Interface
if_there None = None
if_there (Some interface) = interface

-- The interface with this number, if it is known.
abbrev pub known : ℕ → List (Option Interface) → Option Interface
known number interfaces = if_there (slice_get interfaces number)

-- The interface of a body read leniently, with these flaws, is added after the others.
pub record Adds (order : Order) (body : List ℕ) (flaws : List Said) (before after : List (Option Interface)) : Type 0 where
  pub interface : Option Interface
  pub rest : List ℕ
  pub text : InterfaceText order interface flaws body rest
  pub one_more : after ≡ before ++ interface ∷ []

-- The time of `units` units by an interface's clock, if the interface is known.
abbrev pub IsTimeBy : Option Interface → ℕ → Option Timestamp → Type 0
IsTimeBy None units time = time ≡ None
IsTimeBy (Some interface) units None = ⊥
IsTimeBy (Some interface) units (Some time) = IsTimeAt interface units time

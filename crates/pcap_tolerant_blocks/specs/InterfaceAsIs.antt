-- Interfaces read leniently ('Interface Description Block').
use Rattle.std.specs.Prelude.{◌≡◌, ◌<◌, ℕ, List, [], length, map, Option, Some, None}
use Rattle.std.specs.Option.{option_map}
use Rattle.pcap_core.specs.Answer.{Order, Verdict, Says}
use Rattle.pcap_core.specs.declared.rules.Rule.TheVariants.{InterfaceTooShort}
use Rattle.pcap_options.specs.InterfaceOption.{interface_description}
use Rattle.pcap_blocks.specs.InterfaceDescription.{Interface, InterfaceHead, interface_of}
use Rattle.pcap_tolerant_blocks.specs.Flaws.{Said, Flawed, said_of, alone, KeepsSome}
use Rattle.pcap_tolerant_blocks.specs.OptionsAsIs.{OptionsAsIs}
use Rattle.pcap_tolerant_blocks.specs.declared.interface.InterfaceAsIs.{InterfaceAsIs}

-- `s` is the head of an interface and its options read leniently, with these flaws, followed by `rest`.
pub record WithHead (order : Order) (interface : Interface) (flaws : List Said) (s rest : List ℕ) : Type 0 where
  pub after_head : List ℕ
  pub head : InterfaceHead order interface s after_head
  pub options_are : OptionsAsIs order interface_description interface.options flaws after_head rest

-- `s` is an interface read leniently, with these flaws, followed by `rest`; or `s` has no room for its head, and all of it is left.
abbrev pub InterfaceText : Order → Option Interface → List Said → List ℕ → List ℕ → Type 0
InterfaceText order None flaws s rest = (length s < 8) × (flaws ≡ alone InterfaceTooShort) × (rest ≡ s)
InterfaceText order (Some interface) flaws s rest = WithHead order interface flaws s rest

-- `s` is not an interface without flaws and options, so a list grows.
abbrev pub InterfaceGrows : Order → List ℕ → Type 0
InterfaceGrows order = KeepsSome (WithHead order) (λ x. x.options ≡ [])

-- The only answer of lenient reading where the bytes should be an interface is the interface, whatever its flaws.
abbrev pub InterfaceAsIsSays : Order → List ℕ → Verdict (Flawed (Option Interface)) → Type 0
InterfaceAsIsSays order s = Says (λ x rest. InterfaceText order x.value x.flaws s rest) (λ n. ⊥) (λ fault. ⊥)

-- The interface that the code returned, if there is one.
abbrev pub interface_in : InterfaceAsIs → Option Interface
interface_in x = option_map interface_of x.interface

-- The flaws of the interface.
abbrev pub flaws_said : InterfaceAsIs → List Said
flaws_said x = map said_of x.flaws.items

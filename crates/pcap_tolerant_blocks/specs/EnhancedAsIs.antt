-- Enhanced packets read leniently ('Enhanced Packet Block').
use Rattle.std.specs.Prelude.{◌≡◌, ℕ, List, [], map, Option}
use Rattle.std.specs.Option.{option_map}
use Rattle.pcap_core.specs.Answer.{Order, Number, Verdict}
use Rattle.pcap_options.specs.EnhancedOption.{enhanced_packet}
use Rattle.pcap_blocks.specs.EnhancedPacket.{Enhanced, enhanced_of}
use Rattle.pcap_tolerant_blocks.specs.Flaws.{Said, Flawed, said_of, IfRoom, IfRoomSays, KeepsSome}
use Rattle.pcap_tolerant_blocks.specs.StoredAsIs.{WithBytes, NoPacket}
use Rattle.pcap_tolerant_blocks.specs.declared.enhanced.EnhancedAsIs.{EnhancedAsIs}

-- `s` is an interface and a packet read leniently, with these flaws, followed by `rest`.
pub record OfInterface (order : Order) (enhanced : Enhanced) (flaws : List Said) (s rest : List ℕ) : Type 0 where
  pub after_interface : List ℕ
  pub interface_is : Number order 4 enhanced.interface_id s after_interface
  pub packet_is : WithBytes order enhanced_packet enhanced.packet flaws after_interface rest

-- `s` is an enhanced packet read leniently, with these flaws, followed by `rest`; or there is no packet, and all of `s` is left.
abbrev pub EnhancedText : Order → Option Enhanced → List Said → List ℕ → List ℕ → Type 0
EnhancedText order = IfRoom (OfInterface order) (NoPacket order)

-- `s` is not a packet without flaws and options, so a list grows.
abbrev pub EnhancedGrows : Order → List ℕ → Type 0
EnhancedGrows order = KeepsSome (OfInterface order) (λ x. x.packet.options ≡ [])

-- The answers of lenient reading where the bytes should be an enhanced packet.
abbrev pub EnhancedAsIsSays : Order → List ℕ → Verdict (Flawed (Option Enhanced)) → Type 0
EnhancedAsIsSays order = IfRoomSays (OfInterface order) (NoPacket order)

-- The packet that the code returned, if there is one.
abbrev pub enhanced_in : EnhancedAsIs → Option Enhanced
enhanced_in x = option_map enhanced_of x.packet

-- The flaws of the packet.
abbrev pub flaws_said : EnhancedAsIs → List Said
flaws_said x = map said_of x.flaws.items

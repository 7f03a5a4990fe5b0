-- Obsolete packets read leniently ('Packet Block').
use Rattle.std.specs.Prelude.{◌≡◌, ℕ, List, [], map, Option}
use Rattle.std.specs.Option.{option_map}
use Rattle.pcap_core.specs.Answer.{Order, Number, Verdict}
use Rattle.pcap_options.specs.PacketOption.{packet_kind}
use Rattle.pcap_blocks.specs.Packet.{PacketBody, packet_of}
use Rattle.pcap_tolerant_blocks.specs.Flaws.{Said, Flawed, said_of, IfRoom, IfRoomSays, KeepsSome}
use Rattle.pcap_tolerant_blocks.specs.StoredAsIs.{WithBytes, NoPacket}
use Rattle.pcap_tolerant_blocks.specs.declared.packet_block.PacketBlockAsIs.{PacketBlockAsIs}

-- `s` is an interface, a count of lost packets and a packet read leniently, with these flaws, followed by `rest`.
pub record WithDrops (order : Order) (body : PacketBody) (flaws : List Said) (s rest : List ℕ) : Type 0 where
  pub after_interface : List ℕ
  pub after_drops : List ℕ
  pub interface_is : Number order 2 body.interface_id s after_interface
  pub drops_are : Number order 2 body.drop_count after_interface after_drops
  pub packet_is : WithBytes order packet_kind body.packet flaws after_drops rest

-- `s` is an obsolete packet read leniently, with these flaws, followed by `rest`; or there is no packet, and all of `s` is left.
abbrev pub PacketBlockText : Order → Option PacketBody → List Said → List ℕ → List ℕ → Type 0
PacketBlockText order = IfRoom (WithDrops order) (NoPacket order)

-- `s` is not a packet without flaws and options, so a list grows.
abbrev pub PacketBlockGrows : Order → List ℕ → Type 0
PacketBlockGrows order = KeepsSome (WithDrops order) (λ x. x.packet.options ≡ [])

-- The answers of lenient reading where the bytes should be an obsolete packet.
abbrev pub PacketBlockAsIsSays : Order → List ℕ → Verdict (Flawed (Option PacketBody)) → Type 0
PacketBlockAsIsSays order = IfRoomSays (WithDrops order) (NoPacket order)

-- The packet that the code returned, if there is one.
abbrev pub packet_in : PacketBlockAsIs → Option PacketBody
packet_in x = option_map packet_of x.packet

-- The flaws of the packet.
abbrev pub flaws_said : PacketBlockAsIs → List Said
flaws_said x = map said_of x.flaws.items

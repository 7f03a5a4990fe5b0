-- Simple packets read leniently ('Simple Packet Block').
use Rattle.std.specs.Prelude.{◌≡◌, ◌<◌, ℕ, List, [], length, map, Option}
use Rattle.std.specs.Option.{option_map}
use Rattle.pcap_core.specs.declared.rules.Rule.{Rule}
use Rattle.pcap_core.specs.declared.rules.Rule.TheVariants.{SimpleTooShort}
use Rattle.pcap_core.specs.Answer.{Order, Verdict}
use Rattle.pcap_blocks.specs.SimplePacket.{Simple, SimpleText, simple_of}
use Rattle.pcap_tolerant_blocks.specs.Flaws.{Said, Flawed, said_of, IfRoom, IfRoomSays}
use Rattle.pcap_tolerant_blocks.specs.declared.simple.SimpleAsIs.{SimpleAsIs}

-- All of `s` is a simple packet, which has no flaw.
abbrev pub Whole : Order → Simple → List Said → List ℕ → List ℕ → Type 0
Whole order simple flaws s rest = SimpleText order simple s rest × (flaws ≡ [])

-- The rule for which `s` is no packet: it has no room for the original length.
abbrev pub NoLength : List ℕ → Rule → Type 0
NoLength s rule = (rule ≡ SimpleTooShort) × (length s < 4)

-- `s` is a simple packet read leniently, with these flaws, followed by `rest`; or there is no packet, and all of `s` is left.
abbrev pub SimpleAsIsText : Order → Option Simple → List Said → List ℕ → List ℕ → Type 0
SimpleAsIsText order = IfRoom (Whole order) NoLength

-- The answers of lenient reading where the bytes should be a simple packet.
abbrev pub SimpleAsIsSays : Order → List ℕ → Verdict (Flawed (Option Simple)) → Type 0
SimpleAsIsSays order = IfRoomSays (Whole order) NoLength

-- The packet that the code returned, if there is one.
abbrev pub simple_in : SimpleAsIs → Option Simple
simple_in x = option_map simple_of x.packet

-- The flaws of the packet.
abbrev pub flaws_said : SimpleAsIs → List Said
flaws_said x = map said_of x.flaws.items

-- The format of packets.
use Rattle.std.specs.Prelude.{◌≡◌, ◌<◌, ℕ, List, [], length, Bool, true, false}
use Rattle.pcap_classic.specs.declared.common.TsResolution.{TsResolution}
use Rattle.pcap_classic.specs.declared.pcap.header.PcapHeader.{PcapHeader}
use Rattle.pcap_core.specs.declared.rules.Rule.TheVariants.{CaptureMagic}
use Rattle.pcap_core.specs.Answer.{Order, number_in, Verdict, whole, lacks, faulty}
use Rattle.pcap_core.specs.Faults.{Invalid}
use Rattle.pcap_classic.specs.Magic.{is_magic, order_of, resolution_of}
use Rattle.pcap_classic.specs.PacketText.{Captured, PacketSays}
use Rattle.pcap_items.specs.Format.{Format}

-- The format of packets of at most limit bytes, in this byte order and timestamp resolution; it has no state.
unfoldable pub packet_format : ℕ → Order → TsResolution → Format (Unit {0}) Captured
packet_format limit order r = record { says = λ q. PacketSays limit order r; goes = λ q packet. q; head = λ q. 16 }

-- The format of the packets after this header.
abbrev pub format_under : ℕ → PcapHeader → Format (Unit {0}) Captured
format_under limit header = packet_format limit (number_in (order_of header.magic_number)) (resolution_of header.magic_number)

-- The verdict under an invalid magic number: the empty list lacks one byte, and any other bytes have the fault `CaptureMagic`.
abbrev pub RefusingSays : List ℕ → Verdict Captured → Type 0
RefusingSays s (whole packet rest) = ⊥
RefusingSays s (lacks n) = (s ≡ []) × (n ≡ 1)
RefusingSays s (faulty fault) = (0 < length s) × (fault ≡ Invalid CaptureMagic)

-- The format under an invalid magic number, which has no packets.
unfoldable pub refusing_format : Format (Unit {0}) Captured
refusing_format = record { says = λ q. RefusingSays; goes = λ q packet. q; head = λ q. 1 }

-- The first format if the condition is true, else the second.
abbrev pub choice : {S V : Type 0} → Bool → Format S V → Format S V → Format S V
choice true f g = f
choice false f g = g

-- The format that a reader reads under its current header.
unfoldable pub reader_format : ℕ → PcapHeader → Format (Unit {0}) Captured
reader_format limit header = choice (is_magic header.magic_number) (format_under limit header) refusing_format

-- The format of packets after any header, which is the state.
abbrev pub capture_format : ℕ → Format PcapHeader Captured
capture_format limit = record { says = λ header. (format_under limit header).says tt; goes = λ header packet. header; head = λ header. 16 }

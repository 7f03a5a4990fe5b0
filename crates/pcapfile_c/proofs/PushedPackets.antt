-- Many packets of a classic capture that comes in pieces.
use Rattle.std.proofs.Common.{◌≡◌, ◌≤◌, ◌-◌, ℕ, ℤ, List, [], ◌++◌, length, map, take, drop, refl, sym, ap, ◌∙◌, arith, append_assoc, length-append, length-take, inl, inr}
use Rattle.pcap_core.specs.Answer.{number_in}
use Rattle.pcap_items.proofs.Formats.{texts_own}
use Rattle.pcap_classic.specs.Magic.{order_of, resolution_of}
use Rattle.pcap_classic.specs.Packets.{packet_format}
use Rattle.pcap_classic.specs.PacketText.{packet_limit}
use Rattle.pcap_classic.proofs.HeadedPackets.{packets_lawful}
use Rattle.pcapfile_values.specs.declared.errors.PcapfileError.{PcapfileError}
use Rattle.pcapfile_values.specs.declared.shown.PcapfileHeader.{PcapfileHeader}
use Rattle.pcapfile_values.specs.declared.shown.PcapfilePacket.{PcapfilePacket}
use Rattle.pcapfile_values.specs.Shown.{captured}
use Rattle.pcapfile_c.specs.declared.push.PcapfilePush.{PcapfilePush}
use Rattle.pcapfile_c.specs.PushBatches.{FillsPlaces, TakesFrontPackets, TakesNextPackets}
use Rattle.pcapfile_c.specs.Readers.{header_reader, reader}
use Rattle.pcapfile_c.proofs.Pushed.{Found, held_says, opened_ends, with_rest}

-- What is left is the end of the bytes.
fills_ends : (magic : ℕ) (s rest : List ℕ) (old packets : List PcapfilePacket) (taken : ℕ) (error told : PcapfileError) (z : ℤ)
    → FillsPlaces magic (reader s old error) (reader rest packets told) taken z → (t : List ℕ) × (s ≡ t ++ rest)
fills_ends magic s rest old packets taken error told z x =
    let order = number_in (order_of magic) in
    let r = resolution_of magic in
    let o = texts_own (packet_format packet_limit order r) (packets_lawful packet_limit order r) tt (map captured (take taken packets)) s rest x.texts in
    (o.0, o.1)

pub packets_end : (before now : PcapfileHeader) (s rest : List ℕ) (old packets : List PcapfilePacket) (taken : ℕ) (error told : PcapfileError) (z : ℤ)
    → TakesFrontPackets (header_reader before s old error) (header_reader now rest packets told) taken z → (t : List ℕ) × (s ≡ t ++ rest)
packets_end before now s rest old packets taken error told z (inl x) =
    let o = opened_ends before now s x.0 x.1 in
    let p = fills_ends now.magic_number x.0 rest old packets taken error told z x.2 in
    (o.0 ++ p.0, o.1 ∙ ap (λ (l : List ℕ). o.0 ++ l) p.1 ∙ sym (append_assoc o.0 p.0 rest))
packets_end before now s rest old packets taken error told z (inr x) = ([], sym x.3)

-- What is left is no longer than the room before the end of the held bytes.
pub rest_fits : (b e : ℕ) (room held t rest : List ℕ) → held ≡ take (e - b) (drop b room) → held ≡ t ++ rest → length rest ≤ e
rest_fits b e room held t rest is text = omega (arith, ap length is ∙ length-take (e - b) (drop b room), ap length text ∙ length-append t rest)

-- Packets are read from the held bytes.
pub packets_take : (before : PcapfilePush) (header : PcapfileHeader) (room s rest : List ℕ) (old packets : List PcapfilePacket) (taken : ℕ) (error told : PcapfileError) (z : ℤ)
    → Found before room s → TakesFrontPackets (header_reader before.header s old error) (header_reader header rest packets told) taken z
    → TakesNextPackets room (reader before old error) (reader (with_rest before header rest) packets told) taken z
packets_take before header room s rest old packets taken error told z found takes =
    let ends = packets_end before.header header s rest old packets taken error told z takes in
    let held = held_says (λ s rest. TakesFrontPackets (header_reader before.header s old error) (header_reader header rest packets told) taken z) before header room s rest found ends takes in
    inl (held.0, held.1, refl, held.2)

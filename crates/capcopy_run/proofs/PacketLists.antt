-- This file proves how packets are listed.
use Rattle.std.proofs.Common.{◌≡◌, ◌<◌, ◌⊎◌, IfSome, true, false, ℕ, List, [], ◌++◌, Option, Result, Err, inl, inr, refl, subst}
use Rattle.std.specs.Prelude.{⊤}
use Rattle.std.proofs.KnownBytes.{Appends-nil, Consumes-trans}
use Rattle.pcap_core.specs.declared.common.Endianness.{Endianness}
use Rattle.pcap_classic.specs.declared.common.TsResolution.{TsResolution}
use Rattle.pcap_classic.specs.declared.pcap.header.PcapHeader.{PcapHeader}
use Rattle.pcap_classic.specs.declared.pcap.packet.PacketHeader.{PacketHeader}
use Rattle.pcap_core.specs.Answer.{Order, number_in, whole}
use Rattle.pcap_core.specs.declared.errors.PcapError.{PcapError}
use Rattle.pcap_core.specs.Errors.{IsIo, IsMemory}
use Rattle.pcap_core.specs.Faults.{Shows}
use Rattle.pcap_items.specs.Reading.{IsFaultOf, Takes, TakesAsked, read_failed, no_memory, refused}
use Rattle.pcap_classic.specs.HeaderText.{HeaderSays}
use Rattle.pcap_classic.specs.Magic.{order_of, resolution_of}
use Rattle.pcap_classic.specs.PacketText.{packet_limit, Captured, PacketHeaderSays, PacketSays}
use Rattle.pcap_classic.specs.Packets.{packet_format}
use Rattle.pcap_classic.proofs.HeadedPackets.{packets_lawful}
use Rattle.pcap_classic.proofs.PacketStream.{packet_joined}
use Rattle.pcap_classic.proofs.Packets.{packets_say}
use Rattle.pcap_classic.proofs.Stable.{header_stable}
use Rattle.pcap_program.specs.declared.exit.Exit.{Exit}
use Rattle.pcap_program.specs.Exits.{EndsAt, exit_of}
use Rattle.capcopy_run.specs.Listing.{LinesEnd, ListsItems, ListsUntil, streams}
use Rattle.capcopy_run.specs.PacketLines.{packets_in}
use Rattle.capcopy_run.specs.Skipping.{TakesExactly}
use Rattle.capcopy_run.proofs.Listing.{ends_refused, lists_known}

-- A packet whose header was read from a stream, and whose data was skipped.
pub packet_skipped : (order : Order) (r : TsResolution) (left mid now : Option (List ℕ)) (header : PacketHeader) → Takes (PacketHeaderSays packet_limit order r) left mid header
    → (skipped : TakesExactly header.incl_len mid now) → Takes ((packet_format packet_limit order r).says tt) left now (record { header = header; bytes = skipped.0 })
packet_skipped order r left mid now header took skipped =
    let packet : Captured = record { header = header; bytes = skipped.0 } in
    let bytes = took.0 ++ skipped.0 in (
      bytes,
      packets_say packet_limit order r tt bytes (whole packet []) (packet_joined packet_limit order r header took.0 skipped.0 took.1 skipped.2),
      Consumes-trans left mid now took.0 skipped.0 took.2 skipped.1,
    )

-- The bytes that reading a packet needs are those that its format needs.
pub packet_asked : (order : Order) (r : TsResolution) (left now : Option (List ℕ)) → TakesAsked (PacketSays packet_limit order r) left now → TakesAsked ((packet_format packet_limit order r).says tt) left now
unfolding packet_format
packet_asked order r left now asked = asked

-- An error in reading a packet from a stream ends the lines.
pub packet_unread : (IsLine : ℕ → Captured → List ℕ → Type 0) (order : Order) (r : TsResolution) (left mid : Option (List ℕ)) (n most : ℕ) → n < most → (e : PcapError) (exit : Exit)
    → IsIo e ⊎ (⊤ × IsMemory e) ⊎ Shows (IsFaultOf (PacketSays packet_limit order r) left) e → EndsAt e exit → LinesEnd IsLine ((packet_format packet_limit order r).says tt) left mid mid n most (Err exit)
unfolding packet_format
packet_unread IsLine order r left mid n most fewer e exit cause ends =
    let IsSaid = PacketSays packet_limit order r in
    elim cause [
      | inl io ↦ ends_refused IsLine IsSaid left mid n most fewer true e exit (read_failed io refl) ends
      | inr (inl memory) ↦ ends_refused IsLine IsSaid left mid n most fewer false e exit (no_memory memory.1 refl) ends
      | inr (inr shown) ↦ ends_refused IsLine IsSaid left mid n most fewer false e exit (refused shown refl) ends
    ]

-- A capture whose header was read, and whose packets were listed in its byte order and timestamp resolution.
pub packets_known : (grows : Type 0) (IsLine : ℕ → Captured → List ℕ → Type 0) (header : PcapHeader) (order : Endianness) (r : TsResolution) (bytes known now before : Option (List ℕ)) → order ≡ order_of header.magic_number → r ≡ resolution_of header.magic_number
    → Takes HeaderSays bytes known header → (most : ℕ) (after : Option (List ℕ)) (result : Result (Unit {0}) Exit)
    → ListsItems IsLine (packet_format packet_limit (number_in order) r) tt (streams known before) (streams now after) most result → IfSome bytes (λ s. ListsUntil (packets_in grows IsLine) most s now before after (exit_of result))
packets_known grows IsLine header order r bytes known now before is_order is_resolution took most after result run =
    let laws = packets_lawful packet_limit (number_in (order_of header.magic_number)) (resolution_of header.magic_number) in
    let ordered = subst (λ (e : Endianness). ListsItems IsLine (packet_format packet_limit (number_in e) r) tt (streams known before) (streams now after) most result) is_order run in
    let under = subst (λ (t : TsResolution). ListsItems IsLine (packet_format packet_limit (number_in (order_of header.magic_number)) t) tt (streams known before) (streams now after) most result) is_resolution ordered in
    lists_known (packets_in grows IsLine) header_stable header laws bytes known before before took (Appends-nil before) most now after result under

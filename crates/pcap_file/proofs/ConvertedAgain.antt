-- A capture that was converted is read again.
use Rattle.std.proofs.Common.{◌≡◌, ◌+◌, ◌/◌, ◌^◌, ℕ, List, [], ◌∷◌, ◌++◌, refl, ap, sym, subst, arith, map, Bool, Ok, Some, false}
use Rattle.std.specs.Prelude.{All, Option, pos}
use Rattle.std.specs.List.{AllZip}
use Rattle.std.proofs.lemmas.Int.{ints}
use Rattle.std.proofs.lemmas.List.Concat.{flat_map-cons}
use Rattle.std.proofs.lemmas.List.Elements.{All-head, All-tail}
use Rattle.pcap_core.specs.declared.common.Endianness.TheVariants.{Little}
use Rattle.pcap_core.specs.declared.errors.PcapError.{PcapError}
use Rattle.pcap_core.specs.Bytes.{IsBytes}
use Rattle.pcap_items.specs.Copying.{each_written}
use Rattle.pcap_items.specs.Takes.{ReadsFront}
use Rattle.pcap_items.proofs.Copying.{copies_take, each_writing}
use Rattle.pcap_core.proofs.Texts.{front_all}
use Rattle.pcap_classic.specs.declared.pcap.header.PcapHeader.{PcapHeader}
use Rattle.pcap_classic.specs.declared.run.copy.Copied.{Copied}
use Rattle.pcap_classic.specs.HeaderText.{HeaderText}
use Rattle.pcap_classic.specs.Magic.{order_of, resolution_of}
use Rattle.pcap_classic.specs.Packets.{format_under}
use Rattle.pcap_classic.specs.PacketText.{Captured, packet_limit}
use Rattle.pcap_classic.specs.Written.{IsWhole}
use Rattle.pcap_classic.proofs.Accepted.{packets_whole}
use Rattle.pcap_classic.proofs.Captures.{packets_read}
use Rattle.pcap_classic.proofs.Concrete.{header_written}
use Rattle.pcap_times.specs.declared.clock.Clock.{Clock}
use Rattle.pcap_times.specs.declared.unit.TimeUnit.TheVariants.{Decimal}
use Rattle.pcap_blocks.specs.InterfaceTimes.{IsTimeAt}
use Rattle.pcap_blocks.specs.ParsedBlock.{Body, InterfaceBody, SectionBody}
use Rattle.pcap_blocks.specs.SectionHeader.{magic_order}
use Rattle.pcap_written.specs.declared.place.Place.{Place}
use Rattle.pcap_written.specs.Bodies.{head_of}
use Rattle.pcap_written.specs.Capture.{AreWritten}
use Rattle.pcap_written.specs.Fits.{kept_body}
use Rattle.pcap_written.specs.Plain.{plain_section}
use Rattle.pcap_written.specs.Writing.{IsFitIn, TellsPlace, opening_place}
use Rattle.pcap_written.proofs.Packets.{packet_fit, packet_placed}
use Rattle.pcap_file.specs.Conversion.{AreBlocksOf, IsConversion, exact_time}
use Rattle.pcap_file.specs.Converted.{converted, converted_text, interface_for, little_text, little_texts, opening_blocks, packet_block, time_of}
use Rattle.pcap_file.specs.Converts.{ConvertsPackets}
use Rattle.pcap_ng.specs.Written.{IsBodyOf}
use Rattle.pcap_file.proofs.Converting.{blocks_out}
use Rattle.pcap_ng.proofs.WrittenAgain.{capture_again}

-- The place behind n interfaces of a little-endian section.
abbrev behind : ℕ → Place
behind n = record { endianness = Little; interfaces = n }

section_placed : TellsPlace opening_place (head_of (SectionBody (plain_section Little))) (Ok (behind 0))
unfolding magic_order
section_placed = (record { named = refl; known = λ id is. absurd cc; room = omega arith }, refl)

interface_placed : (header : PcapHeader) → TellsPlace (behind 0) (head_of (InterfaceBody (interface_for header))) (Ok (behind 1))
interface_placed header = (record { named = refl; known = λ id is. absurd cc; room = omega arith }, refl)

packets_written : (packets : List Captured) → All IsWhole packets → AreWritten (behind 1) (map packet_block packets) (little_texts (map packet_block packets)) (behind 1)
packets_written [] all = (refl, refl)
packets_written (packet ∷ packets) all =
    let whole = All-head IsWhole packet packets all in
    let original = packet.header.orig_len in (
      behind 1,
      little_text (packet_block packet),
      little_texts (map packet_block packets),
      record {
        place = packet_placed (behind 1) 0 (time_of packet) original packet.bytes (omega arith) (omega arith);
        fit = packet_fit Little 0 (time_of packet) original packet.bytes (omega arith) (omega (arith, whole.seconds, whole.nanoseconds)) (omega (arith, whole.limit)) (omega (arith, whole.included, whole.original, whole.limit));
        text = refl;
      },
      flat_map-cons little_text (packet_block packet) (map packet_block packets),
      packets_written packets (All-tail IsWhole packet packets all),
    )

blocks_written : (header : PcapHeader) (packets : List Captured) → All (IsFitIn Little) (opening_blocks header) → All IsWhole packets
    → AreWritten opening_place (converted header packets) (little_texts (converted header packets)) (behind 1)
blocks_written header packets fit all =
    let section = SectionBody (plain_section Little) in
    let interface = InterfaceBody (interface_for header) in
    let blocks = map packet_block packets in (
      behind 0,
      little_text section,
      little_texts (interface ∷ blocks),
      record { place = section_placed; fit = All-head (IsFitIn Little) section (interface ∷ []) fit; text = refl },
      flat_map-cons little_text section (interface ∷ blocks),
      (
        behind 1,
        little_text interface,
        little_texts blocks,
        record { place = interface_placed header; fit = All-head (IsFitIn Little) interface [] (All-tail (IsFitIn Little) section (interface ∷ []) fit); text = refl },
        flat_map-cons little_text interface blocks,
        packets_written packets all,
      ),
    )

-- The bodies of packet blocks are kept unchanged.
packets_kept : (packets : List Captured) → map kept_body (map packet_block packets) ≡ map packet_block packets
packets_kept [] = refl
packets_kept (packet ∷ packets) = ap (λ (blocks : List Body). packet_block packet ∷ blocks) (packets_kept packets)

pub converted_again : (header : PcapHeader) (packets : List Captured) → All (IsFitIn Little) (opening_blocks header) → All IsWhole packets → AreBlocksOf header packets (little_texts (converted header packets))
converted_again header packets fit all =
    let section = plain_section Little in
    let interface = InterfaceBody (interface_for header) in
    let read = capture_again opening_place (behind 1) section (interface ∷ map packet_block packets) (little_texts (converted header packets)) (blocks_written header packets fit all) in
    let same : map kept_body (converted header packets) ≡ converted header packets = ap (λ (blocks : List Body). SectionBody section ∷ interface ∷ blocks) (packets_kept packets) in
    record { items = read.0; front = read.1; bodies = subst (λ (bodies : List Body). AllZip IsBodyOf read.0 bodies) same read.2 }

pub exactly_timed : (header : PcapHeader) (packet : Captured) → IsTimeAt (interface_for header) (time_of packet) (exact_time packet)
exactly_timed header packet =
    let clock : Clock = record { unit = Decimal 9; offset = pos 0 } in
    record {
      clock = clock;
      clock_is = record { unit = refl; offset = refl };
      time_is = record { counted = packet.header.ts_sec + packet.header.ts_nsec / 10 ^ 9; split = record { together = omega arith; no_second_more = omega arith }; moved = omega (arith, ints) };
    }

-- The packets that a conversion read fit into a capture.
wholes : (bytes after : List ℕ) (header : PcapHeader) (most : ℕ) (packets : List Captured) (fault : Option PcapError) (failed : Bool) → IsBytes bytes → HeaderText header bytes after
    → ReadsFront (format_under packet_limit header) tt after most packets fault failed → All IsWhole packets
wholes bytes after header most packets fault failed fits text reads =
    let behind = header_written header bytes after fits text in
    let all = packets_whole (order_of header.magic_number) (resolution_of header.magic_number) (packets ++ reads.more) after reads.rest behind.1 reads.front.texts in
    front_all IsWhole packets reads.more all

pub conversion_wholes : (bytes : List ℕ) (out_before out_now : Option (List ℕ)) (most : ℕ) (copied : Copied) → IsBytes bytes → (c : IsConversion bytes out_before out_now most copied) → All IsWhole c.packets
conversion_wholes bytes out_before out_now most copied fits c = wholes bytes c.after c.header most c.packets copied.fault copied.read_failed fits c.header_text c.reads

-- If no write failed, a conversion of known bytes wrote a capture that is read as the conversion of its packets.
pub conversion_again : (bytes : List ℕ) (now out_before out_now : Option (List ℕ)) (most : ℕ) (copied : Copied) → IsBytes bytes → copied.write_failed ≡ false
    → ConvertsPackets (Some bytes) now out_before out_now most copied → IsConversion bytes out_before out_now most copied
conversion_again bytes now out_before out_now most copied fits wrote run =
    let header = run.header in
    let packets = run.packets.items in
    let all = copies_take (format_under packet_limit header) (each_written converted_text) (each_writing converted_text) tt run.behind now run.out_behind out_now most
    copied.packets copied.fault copied.read_failed copied.write_failed wrote run.packets in
    let read = packets_read packet_limit header now copied.read_failed most packets copied.fault (Some bytes) run.behind run.opened.read all.0 in
    record {
      header = header;
      after = read.0;
      packets = packets;
      header_text = read.1;
      reads = read.2;
      count = sym run.packets.count;
      out = blocks_out header packets out_before run.out_behind out_now run.opened.out all.1;
      blocks = converted_again header packets run.opened.fit (wholes bytes read.0 header most packets copied.fault copied.read_failed fits read.1 read.2);
    }

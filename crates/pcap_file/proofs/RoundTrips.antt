-- Captures that were converted to PcapNg become the packets that they were.
use Rattle.std.proofs.Common.{rules, ◌≡◌, ◌<◌, ◌+◌, ◌/◌, ◌%◌, ◌^◌, arith, ℕ, List, [], ◌∷◌, map, refl, sym, ap, subst, ◌∙◌, Bool, true, false, ◌≤◌, length}
use Rattle.std.specs.Prelude.{All}
use Rattle.std.specs.List.{AllZip}
use Rattle.std.proofs.lemmas.List.Elements.{All-cons, All-head, All-nil, All-tail}
use Rattle.pcap_core.specs.Answer.{Order, number_in, whole}
use Rattle.pcap_core.specs.declared.link.DataLink.{DataLink}
use Rattle.pcap_core.specs.Codec.{number_bytes}
use Rattle.pcap_items.specs.Format.{Front, Texts}
use Rattle.pcap_core.specs.Link.{IsPlain, link_number}
use Rattle.pcap_items.specs.Headed.{good}
use Rattle.pcap_core.specs.declared.common.Endianness.TheVariants.{Little}
use Rattle.pcap_classic.specs.declared.pcap.header.PcapHeader.{PcapHeader}
use Rattle.pcap_classic.specs.PacketText.{Captured}
use Rattle.pcap_classic.specs.declared.common.TsResolution.{TsResolution}
use Rattle.pcap_classic.specs.declared.common.TsResolution.TheVariants.{MicroSecond, NanoSecond}
use Rattle.pcap_classic.specs.Magic.{resolution_of}
use Rattle.pcap_classic.specs.Written.{IsWhole, IsWholeHeader, cut}
use Rattle.pcap_blocks.specs.declared.block_type.BlockType.{BlockType}
use Rattle.pcap_blocks.specs.declared.block_type.BlockType.TheVariants as types
use Rattle.pcap_options.specs.InterfaceOption.{interface_description}
use Rattle.pcap_blocks.specs.InterfaceDescription.{Interface}
use Rattle.pcap_blocks.specs.ParsedBlock.{Body, BodySays, SectionBody, InterfaceBody}
use Rattle.pcap_options.specs.SectionOption.{section_header}
use Rattle.pcap_blocks.specs.SectionHeader.{Section}
use Rattle.pcap_written.specs.Bodies.{body_text}
use Rattle.pcap_written.specs.Fits.{IsFitOption}
use Rattle.pcap_written.specs.Plain.{plain_section}
use Rattle.pcap_written.specs.Writing.{IsFitIn}
use Rattle.pcap_ng.specs.Blocks.{Item, BlockText, block_format}
use Rattle.pcap_ng.specs.Bodies.{SaysOfBody}
use Rattle.pcap_file.specs.Conversion.{AreBlocksOf}
use Rattle.pcap_file.specs.Converted.{converted, in_nanoseconds, interface_for, little_texts, opening_blocks, packet_block}
use Rattle.pcap_ng.specs.Frames.{Framed}
use Rattle.pcap_file.specs.Placed.{Becomes, PlacesBody, Turn, carried, no_packet, packets_of, placed, reasons_of, unplaced}
use Rattle.pcap_ng.specs.State.{interfaces_at}
use Rattle.pcap_file.specs.RoundTrip.{BlocksBecome, HasSecondsInside, packets_read}
use Rattle.pcap_ng.specs.State.{State, opening, within, is_kept, is_read, leads, MeansIf}
use Rattle.pcap_ng.specs.Written.{IsBodyOf}
use Rattle.pcap_ng.proofs.Bodies.{bodies_same}
use Rattle.pcap_file.proofs.OneTurn.{packet_as_body}
use Rattle.pcap_file.proofs.ConvertedAgain.{converted_again}
use Rattle.pcap_file.proofs.PlacedAgain.{IsPlaced, body_placed, packet_back}
use Rattle.pcap_ng.proofs.BlockFormat.{good_in}

-- A body of a type that is not kept leaves the state unchanged.
unkept_stays : (section : Section) (interfaces : List Interface) (order : Order) (type : BlockType) (s : List ℕ) (body : Body) (rest : List ℕ)
    → is_kept type ≡ false
    → BodySays order type s (whole body rest) → leads (within section interfaces) body ≡ good (within section interfaces)
unkept_stays section interfaces order types.SectionHeader s body rest kept says = absurd cc
unkept_stays section interfaces order types.InterfaceDescription s body rest kept says = absurd cc
unkept_stays section interfaces order _ s body rest kept says = rw says.1 refl

-- The state behind a block follows from its body, whether the reader reads the body or not.
led : (q : State) (b : Framed) (body : Body) (rest : List ℕ) (next : State) (read : Bool) → SaysOfBody b (whole body rest) → is_read q b.type_ ≡ read
    → MeansIf read q b (good next) → leads q body ≡ good next
led q b body rest next true says is means = ap (leads q) (bodies_same b body means.0 rest means.1 says means.2) ∙ means.3
led opening b body rest next false says is means = absurd cc
led (within section interfaces) b body rest next false says is means =
    unkept_stays section interfaces (number_in b.endianness) b.type_ b.body body rest is says ∙ ap good (sym means)

-- A block leads to the state to which its body leads.
pub leads_by_body : (q : State) (item : Item) (body : Body) (s rest : List ℕ) → BlockText q item s rest → IsBodyOf item body → leads q body ≡ good item.after
leads_by_body q item body s rest text is = led q item.block body is.0 item.after (is_read q item.block.type_) is.1 refl text.means

-- The turns that the blocks of packets become.
abbrev turns_of : List Captured → List Turn
turns_of packets = map (λ packet. placed (carried packet)) packets

turned_packets : (packets : List Captured) → packets_of (turns_of packets) ≡ map carried packets
turned_packets [] = refl
turned_packets (packet ∷ packets) = ap (λ (l : List Captured). carried packet ∷ l) (turned_packets packets)

none_unplaced : (packets : List Captured) → reasons_of (turns_of packets) ≡ []
none_unplaced [] = refl
none_unplaced (packet ∷ packets) = none_unplaced packets

module _ (header : PcapHeader) (section : Section) where
  -- The state of a converted capture behind its interface.
  abbrev described : State
  described = within section (interface_for header ∷ [])

  packets_become : (packets : List Captured) (items : List Item) (s rest : List ℕ) → All IsWhole packets → All HasSecondsInside packets
      → Texts block_format described items s rest
      → AllZip IsBodyOf items (map packet_block packets) → AllZip (Becomes header.datalink) items (turns_of packets)
  unfolding block_format
  packets_become [] [] s rest wholes inside texts bodies = tt
  packets_become [] (item ∷ items) s rest wholes inside texts bodies = absurd bodies
  packets_become (packet ∷ packets) [] s rest wholes inside texts bodies = absurd bodies
  packets_become (packet ∷ packets) (item ∷ items) s rest wholes inside texts bodies =
      let link = header.datalink in
      let body = packet_block packet in
      let is = bodies.0 in
      let there : described ≡ item.after = good_in described item.after (leads_by_body described item body s texts.0 texts.1 is) in
      let back = packet_back header packet (All-head IsWhole packet packets wholes) (All-head HasSecondsInside packet packets inside) in
      let places : PlacesBody (interfaces_at item.after) link body (carried packet) = subst (λ (q : State). PlacesBody (interfaces_at q) link body (carried packet)) there back in
      let behind : Texts block_format described items texts.0 rest = subst (λ (q : State). Texts block_format q items texts.0 rest) (sym there) texts.2 in (
        (packet_as_body item.block body is.0 is.1, body, is.0, is.1, places),
        packets_become packets items texts.0 rest (All-tail IsWhole packet packets wholes) (All-tail HasSecondsInside packet packets inside) behind bodies.1,
      )

-- A capture that was converted becomes its packets.
become : (header : PcapHeader) (packets : List Captured) (bytes : List ℕ) (items : List Item) → All IsWhole packets → All HasSecondsInside packets
    → Front block_format opening items bytes []
    → AllZip IsBodyOf items (converted header packets) → BlocksBecome header.datalink (map carried packets) bytes
unfolding block_format
become header packets bytes [] wholes inside front bodies = absurd bodies
become header packets bytes (first ∷ []) wholes inside front bodies = absurd bodies.1
become header packets bytes (first ∷ second ∷ items) wholes inside front bodies =
    let section = plain_section Little in
    let interface = interface_for header in
    let texts = front.texts in
    let is_first = bodies.0 in
    let is_second = bodies.1.0 in
    let begun : within section [] ≡ first.after = good_in (within section []) first.after (leads_by_body opening first (SectionBody section) bytes texts.0 texts.1 is_first) in
    let more : Texts block_format (within section []) (second ∷ items) texts.0 [] = subst (λ (q : State). Texts block_format q (second ∷ items) texts.0 []) (sym begun) texts.2 in
    let there : described header section ≡ second.after =
    good_in (described header section) second.after (leads_by_body (within section []) second (InterfaceBody interface) texts.0 more.0 more.1 is_second) in
    let behind : Texts block_format (described header section) items more.0 [] = subst (λ (q : State). Texts block_format q items more.0 []) (sym there) more.2 in
    let opens = packet_as_body first.block (SectionBody section) is_first.0 is_first.1 in
    let describes = packet_as_body second.block (InterfaceBody interface) is_second.0 is_second.1 in
    record {
      items = first ∷ second ∷ items;
      turns = no_packet ∷ no_packet ∷ turns_of packets;
      front = front;
      become = (opens, (describes, packets_become header section packets items more.0 [] wholes inside behind bodies.1.1));
      packets_are = turned_packets packets;
      all_have_a_place = none_unplaced packets;
    }

pub blocks_become : (header : PcapHeader) (packets : List Captured) (bytes : List ℕ) → All IsWhole packets → All HasSecondsInside packets
    → AreBlocksOf header packets bytes
    → BlocksBecome header.datalink (map carried packets) bytes
blocks_become header packets bytes wholes inside blocks = become header packets bytes blocks.items wholes inside blocks.front blocks.bodies

-- A packet with less than a second of nanoseconds has no whole seconds among them.
pub carried_same : (packet : Captured) → packet.header.ts_nsec < 10 ^ 9 → carried packet ≡ packet
carried_same packet few =
    let seconds : packet.header.ts_sec + packet.header.ts_nsec / 10 ^ 9 ≡ packet.header.ts_sec = omega (arith, few) in
    let nanoseconds : packet.header.ts_nsec % 10 ^ 9 ≡ packet.header.ts_nsec = omega (arith, few) in
    rw (seconds, nanoseconds) refl

-- ---- and the other way

-- The blocks before the packets have a text, if the header's link type fits into an interface.
pub opening_fit : (header : PcapHeader) → IsPlain header.datalink → link_number header.datalink < 2 ^ 16 → header.snaplen < 2 ^ 32
    → All (IsFitIn Little) (opening_blocks header)
opening_fit header plain link snaplen =
    let section = SectionBody (plain_section Little) in
    let interface = InterfaceBody (interface_for header) in
    let section_long : length (body_text (number_bytes Little) section) ≡ 16 = refl in
    let interface_long : length (body_text (number_bytes Little) interface) ≡ 20 = refl in
    let resolution : IsFitOption (number_in Little) (number_bytes Little) interface_description in_nanoseconds = record { code = omega arith; no_mark = λ is. absurd cc; short = omega arith; kept = refl } in
    let section_fit : IsFitIn Little section = record {
      fit = record { magic = omega arith; major = omega arith; minor = omega arith; length_fits = search rules; options = All-nil (IsFitOption (number_in Little) (number_bytes Little) section_header) };
      short = omega (arith, section_long);
    } in
    let interface_fit : IsFitIn Little interface = record {
      fit = record { plain = plain; link = link; reserved = omega arith; snaplen = snaplen; options = All-cons (IsFitOption (number_in Little) (number_bytes Little) interface_description) in_nanoseconds [] resolution (All-nil _) };
      short = omega (arith, interface_long);
    } in
    All-cons (IsFitIn Little) section (interface ∷ []) section_fit (All-cons (IsFitIn Little) interface [] interface_fit (All-nil (IsFitIn Little)))

-- Cutting a packet's nanoseconds does not make them more.
cut_less : (r : TsResolution) (packet : Captured) → (cut r packet).header.ts_nsec ≤ packet.header.ts_nsec
cut_less MicroSecond packet = omega arith
cut_less NanoSecond packet = omega arith

-- IsKeptCut: a packet of a block, after it is cut, is carried unchanged.
record IsKeptCut (r : TsResolution) (packet : Captured) : Type 0 where
  whole : IsWhole (cut r packet)
  inside : HasSecondsInside (cut r packet)
  same : carried (cut r packet) ≡ cut r packet

kept_cut : (r : TsResolution) (packet : Captured) → IsPlaced packet → IsKeptCut r packet
kept_cut r packet x =
    let less = cut_less r packet in
    let few : (cut r packet).header.ts_nsec < 10 ^ 9 = omega (arith, less, x.no_second_more) in
    record {
      whole = record { seconds = x.whole.seconds; nanoseconds = omega (arith, few); included = x.whole.included; original = x.whole.original; limit = x.whole.limit };
      inside = omega (arith, few, x.whole.seconds);
      same = carried_same (cut r packet) few;
    }

-- AreKeptCut: the same holds for all packets of blocks.
record AreKeptCut (r : TsResolution) (packets : List Captured) : Type 0 where
  wholes : All IsWhole (map (cut r) packets)
  inside : All HasSecondsInside (map (cut r) packets)
  same : map carried (map (cut r) packets) ≡ map (cut r) packets

all_kept : (r : TsResolution) (link : DataLink) (items : List Item) (turns : List Turn) → AllZip (Becomes link) items turns → AreKeptCut r (packets_of turns)
all_kept r link [] [] x = record { wholes = All-nil IsWhole; inside = All-nil HasSecondsInside; same = refl }
all_kept r link [] (turn ∷ turns) x = absurd x
all_kept r link (item ∷ items) [] x = absurd x
all_kept r link (item ∷ items) (placed packet ∷ turns) x =
    let one = kept_cut r packet (body_placed (interfaces_at item.after) link x.0.1 packet x.0.4) in
    let more = all_kept r link items turns x.1 in
    record {
      wholes = All-cons IsWhole (cut r packet) (map (cut r) (packets_of turns)) one.whole more.wholes;
      inside = All-cons HasSecondsInside (cut r packet) (map (cut r) (packets_of turns)) one.inside more.inside;
      same = rw (one.same, more.same) refl;
    }
all_kept r link (item ∷ items) (unplaced reason ∷ turns) x = all_kept r link items turns x.1
all_kept r link (item ∷ items) (no_packet ∷ turns) x = all_kept r link items turns x.1

-- Packets of blocks, as a classic capture has them, become themselves again.
pub placed_back : (header : PcapHeader) (items : List Item) (turns : List Turn) → IsWholeHeader header → link_number header.datalink < 2 ^ 16
    → AllZip (Becomes header.datalink) items turns
    → BlocksBecome header.datalink (packets_read header turns) (little_texts (converted header (packets_read header turns)))
placed_back header items turns fits link become =
    let r = resolution_of header.magic_number in
    let packets = map (cut r) (packets_of turns) in
    let kept = all_kept r header.datalink items turns become in
    let blocks = converted_again header packets (opening_fit header fits.plain link fits.snaplen) kept.wholes in
    subst (λ (ps : List Captured). BlocksBecome header.datalink ps (little_texts (converted header packets))) kept.same
    (blocks_become header packets (little_texts (converted header packets)) kept.wholes kept.inside blocks)

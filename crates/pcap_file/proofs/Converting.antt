-- Proofs about the conversion of packets, one after another.
use Rattle.std.proofs.Common.{◌≡◌, ◌≤◌, ℕ, List, [], sym, subst, arith, length, map}
use Rattle.std.specs.Prelude.{Any, Option, Result}
use Rattle.std.specs.Io.KnownBytes.{Appends}
use Rattle.std.proofs.KnownBytes.{Appends-trans}
use Rattle.std.proofs.lemmas.Grind.{flat_map-append}
use Rattle.std.specs.List.{flat_map}
use Rattle.std.proofs.lemmas.List.Folds.{flat_map-map}
use Rattle.pcap_core.specs.declared.common.Endianness.TheVariants.{Little}
use Rattle.pcap_core.specs.declared.errors.PcapError.{PcapError}
use Rattle.pcap_core.specs.declared.errors.PcapError.TheVariants as errors
use Rattle.pcap_core.specs.Answer.{whole}
use Rattle.pcap_core.specs.Codec.{number_bytes}
use Rattle.pcap_items.specs.Writing.{WritesAll}
use Rattle.pcap_classic.specs.declared.pcap.header.PcapHeader.{PcapHeader}
use Rattle.pcap_classic.specs.Packets.{packet_format, reader_format}
use Rattle.pcap_classic.specs.PacketText.{Captured, packet_limit}
use Rattle.pcap_classic.proofs.Packets.{reader_whole}
use Rattle.pcap_blocks.specs.ParsedBlock.{Body, EnhancedBody}
use Rattle.pcap_written.specs.declared.unwritable.Unwritable.{Unwritable}
use Rattle.pcap_written.specs.declared.unwritable.Unput.{Unput}
use Rattle.pcap_written.specs.declared.unwritable.Unput.TheVariants.{Memory, Unfit}
use Rattle.pcap_written.specs.Bodies.{text_of}
use Rattle.pcap_written.specs.Plain.{plain_packet}
use Rattle.pcap_written.specs.Puts.{IsShownAs, RefusesPut}
use Rattle.pcap_written.specs.Writing.{FlawIn}
use Rattle.pcap_file.specs.Converted.{converted, converted_text, little_text, little_texts, opening_blocks, packet_block}
use Rattle.pcap_file.specs.Converts.{RefusesBlocks}

-- If one of these blocks has a flaw or memory runs out, the error is one that refuses the blocks.
pub block_refused : (blocks : List Body) (block : Body) → ((flaw : Unwritable) → FlawIn Little block flaw → Any (λ b. FlawIn Little b flaw) blocks)
    → (unput : Unput) (shown : PcapError) → RefusesPut (FlawIn Little block) unput → IsShownAs unput shown → RefusesBlocks blocks shown
block_refused blocks block any (Memory e) (errors.OutOfMemory x) stands is = tt
block_refused blocks block any (Unfit flaw) (errors.InvalidField message) stands is = (flaw, is, any flaw stands)
block_refused blocks block any (Memory e) _ stands is = absurd is
block_refused blocks block any (Unfit flaw) _ stands is = absurd is

-- The bytes of a packet that was read fit into a block.
pub packet_short : (header : PcapHeader) (s : List ℕ) (packet : Captured) → (reader_format packet_limit header).says tt s (whole packet []) → length packet.bytes ≤ 4294967260
unfolding packet_format
packet_short header s packet says =
    let text = (reader_whole packet_limit header s [] packet says).1 in
    let included : packet.header.incl_len ≤ 262144 = rw text.header.value (omega (arith, text.header.good.included, text.header.good.original)) in
    omega (arith, text.whole, included)

-- Equal times and bytes have equal blocks, so what was written of one block was written of the other.
pub packet_put : (a b : Option (List ℕ)) (result : Result (Unit {0}) PcapError) (time units original : ℕ) (bytes others : List ℕ) → time ≡ units → bytes ≡ others
    → WritesAll a b (text_of (number_bytes Little) (EnhancedBody (plain_packet 0 time original bytes))) result
    → WritesAll a b (text_of (number_bytes Little) (EnhancedBody (plain_packet 0 units original others))) result
packet_put a b result time units original bytes others t d out =
    let first : WritesAll a b (text_of (number_bytes Little) (EnhancedBody (plain_packet 0 units original bytes))) result =
    subst (λ (n : ℕ). WritesAll a b (text_of (number_bytes Little) (EnhancedBody (plain_packet 0 n original bytes))) result) t out in
    subst (λ (l : List ℕ). WritesAll a b (text_of (number_bytes Little) (EnhancedBody (plain_packet 0 units original l))) result) d first

-- The opening blocks were written and then the blocks of packets, so the conversion of these packets was written.
pub blocks_out : (header : PcapHeader) (packets : List Captured) (a b c : Option (List ℕ)) → Appends a b (little_texts (opening_blocks header)) → Appends b c (flat_map converted_text packets)
    → Appends a c (little_texts (converted header packets))
blocks_out header packets a b c opening out =
    let opens = opening_blocks header in
    let blocks = map packet_block packets in
    let went = subst (λ (t : List ℕ). Appends b c t) (sym (flat_map-map little_text packet_block packets)) out in
    subst (λ (t : List ℕ). Appends a c t) (sym (flat_map-append little_text opens blocks)) (Appends-trans a b c (little_texts opens) (little_texts blocks) opening went)

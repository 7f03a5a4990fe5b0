-- Blocks with their ranks.
use Rattle.std.proofs.Common.{◌≡◌, ◌+◌, ◌*◌, ◌^◌, pos, negsuc, ◌+ℤ◌, ◌-ℤ◌, ℤ, ℕ, List, [], ◌∷◌, ◌++◌, inl, inr, refl, sym, subst, arith, Option, Some}
use Rattle.std.specs.Prelude.{All, FitsSigned, unsigned_abs}
use Rattle.std.specs.List.{slice_get}
use Rattle.std.specs.Int.{w64}
use Rattle.std.proofs.lemmas.Int.{ints}
use Rattle.std.proofs.lemmas.List.Elements.{All-nil, All-cons}
use Rattle.pcap_core.specs.declared.common.Endianness.{Endianness}
use Rattle.pcap_core.specs.declared.common.Endianness.TheVariants.{Big, Little}
use Rattle.pcap_core.specs.declared.errors.PcapError.{PcapError}
use Rattle.pcap_core.specs.Answer.{whole, lacks, faulty, Refuses}
use Rattle.pcap_items.specs.Headed.{good}
use Rattle.pcap_items.proofs.Formats.{text_same}
use Rattle.pcap_items.proofs.Fronts.{said_not_refused}
use Rattle.pcap_times.specs.declared.clock.Clock.{Clock}
use Rattle.pcap_times.specs.declared.clock.Timestamp.{Timestamp}
use Rattle.pcap_times.specs.Times.{IsSplit}
use Rattle.pcap_blocks.specs.InterfaceDescription.{Interface}
use Rattle.pcap_blocks.specs.InterfaceTimes.{IsClockOf}
use Rattle.pcap_blocks.specs.ParsedBlock.{Body, SectionBody}
use Rattle.pcap_ng.specs.Blocks.{Item, block_format}
use Rattle.pcap_ng.specs.Bodies.{SaysOfBody}
use Rattle.pcap_ng.specs.Frames.{Framed, FrameSays, frame_format}
use Rattle.pcap_ng.specs.Opening.{OpeningSays}
use Rattle.pcap_ng.specs.State.{State, leads, opening, order_at}
use Rattle.pcap_ng.proofs.HeadedFrames.{frames_lawful}
use Rattle.pcapfile_run.specs.BlockPackets.{InBlock, IsClockTime, IsTimeIn}
use Rattle.pcapfile_sort.specs.Blocks.{AreBlocks, IsBlock, IsBlockIn, IsNumberIn, IsRankOf, block_captures, rank_in}
use Rattle.pcapfile_sort.specs.Ranked.{Ranked, ranked_at}
use Rattle.pcapfile_sort.specs.ReadingBlocks.{HasTimeNumber}
use Rattle.pcapfile_sort.specs.Sortable.{IsSortable}

-- ---- the number of a time

-- An offset of 64 bits is so many seconds after the earliest one.
pub offset_biased : (z y : ℤ) (n : ℕ) → FitsSigned w64 z → y ≡ z → n ≡ unsigned_abs (y -ℤ negsuc 9223372036854775807) → pos n ≡ z +ℤ pos (2 ^ 63)
offset_biased z y n fits same is = omega (arith, ints, fits, same, is)

-- The number of the time at which a clock has counted this many units.
pub time_numbered : (interface : Interface) (clock : Clock) → IsClockOf interface clock → (units counted nanoseconds moved n : ℕ) → IsSplit clock.unit units counted nanoseconds
    → pos moved ≡ clock.offset +ℤ pos (2 ^ 63) → n ≡ 2 + ((counted + moved) * 10 ^ 9 + nanoseconds) → HasTimeNumber interface units n
time_numbered interface clock is units counted nanoseconds moved n split same number =
    let time : Timestamp = record { seconds = pos counted +ℤ clock.offset; nanoseconds = nanoseconds } in
    let seconds : pos (counted + moved) ≡ time.seconds +ℤ pos (2 ^ 63) = omega (arith, ints, same) in
    (time, record { clock = clock; clock_is = is; time_is = record { counted = counted; split = split; moved = refl } }, (counted + moved, seconds, number))

-- The number of a packet of a described interface is that of its time.
pub numbered_at : (interfaces : List Interface) (packet : InBlock) (units n : ℕ) (by : Interface) → packet.units ≡ Some units → slice_get interfaces packet.interface ≡ Some by → HasTimeNumber by units n → IsNumberIn interfaces (Some packet) n
numbered_at interfaces packet units n by counted described x =
    let clock : IsClockTime (slice_get interfaces packet.interface) units (Some x.0) = subst (λ (d : Option Interface). IsClockTime d units (Some x.0)) (sym described) x.1 in
    (Some x.0, subst (λ (u : Option ℕ). IsTimeIn interfaces packet.interface u (Some x.0)) (sym counted) clock, x.2)

-- ---- one block after another

-- Blocks with one more are blocks.
pub are_more : (q : State) (before : ℕ) (records : List Ranked) (next : State) (sections : ℕ) (item : Item) (after rank : ℕ) (text : List ℕ) → AreBlocks q before records next sections
    → block_format.says next text (whole item []) → IsRankOf item sections after rank → AreBlocks q before (records ++ ranked_at rank text ∷ []) item.after after
are_more q before [] next sections item after rank text none says is =
    let said = subst (λ (s : State). block_format.says s text (whole item [])) none.0 says in
    (item, after, said, subst (λ (n : ℕ). IsRankOf item n after rank) none.1 is, (refl, refl))
are_more q before (ranked ∷ others) next sections item after rank text blocks says is =
    (blocks.0, blocks.1, blocks.2, blocks.3, are_more blocks.0.after blocks.1 others next sections item after rank text blocks.4 says is)

-- The frame of an item.
frame_in : (q : State) (item : Item) (text : List ℕ) → block_format.says q text (whole item []) → FrameSays (order_at q) text (whole item.block [])
unfolding block_format
frame_in q item text said = said.frame

block_in : (order : Endianness) (text : List ℕ) (block : Framed) → FrameSays order text (whole block []) → IsBlock text
block_in Little text block said = inl (block, said)
block_in Big text block said = inr (block, said)

-- Each of these records is a block.
pub each_block : (q : State) (before : ℕ) (records : List Ranked) (next : State) (sections : ℕ) → AreBlocks q before records next sections → All (λ (ranked : Ranked). IsBlock ranked.text) records
each_block q before [] next sections none = All-nil (λ (ranked : Ranked). IsBlock ranked.text)
each_block q before (ranked ∷ others) next sections blocks =
    let first : IsBlock ranked.text = block_in (order_at q) ranked.text blocks.0.block (frame_in q blocks.0 ranked.text blocks.2) in
    All-cons (λ (ranked : Ranked). IsBlock ranked.text) ranked others first (each_block blocks.0.after blocks.1 others next sections blocks.4)

-- Bytes that are exactly one block begin with no other.
pub rest_none : (order : Endianness) (text rest : List ℕ) (block : Framed) → FrameSays order text (whole block rest) → IsBlockIn order text → rest ≡ []
unfolding frame_format
rest_none order text rest block said is = (text_same frame_format frames_lawful order block is.0 text rest [] said is.1).1

-- The frame of a whole block is not refused.
pub frame_stands : (order : Endianness) (text : List ℕ) (block : Framed) → FrameSays order text (whole block []) → (e : PcapError) → Refuses ⊥ (λ n. FrameSays order text (lacks n)) (λ fault. FrameSays order text (faulty fault)) e → ⊥
unfolding frame_format
frame_stands order text block said e refuses = said_not_refused (FrameSays order text) (frames_lawful.one order text) block [] said e refuses

pub blocks_sortable : IsSortable block_captures
blocks_sortable = record {
  took = λ none records capture rest begins. begins.2.took;
  each = λ none records capture rest begins. each_block opening 0 records begins.0 begins.1 begins.2.blocks;
}

-- ---- the first block

first_rank : (block : Framed) (q : State) (body : Body) (rest : List ℕ) → SaysOfBody block (whole body rest) → leads opening body ≡ good q → IsRankOf (record { block = block; after = q }) 0 1 (rank_in 1 0)
first_rank block q (SectionBody section) rest says leads_to = record { body = SectionBody section; rest = rest; says = says; sections = refl; number = 0; number_is = refl; rank_is = refl }
first_rank block q _ rest says leads_to = absurd cc

-- The first block of a capture has the rank of the first section's header.
pub first_block : (q : State) (text : List ℕ) → OpeningSays text (whole q []) → AreBlocks opening 0 (ranked_at (rank_in 1 0) text ∷ []) q 1
unfolding block_format
first_block q text opens =
    let block = opens.0 in
    let means = opens.1.means in
    let item : Item = record { block = block; after = q } in
    (item, 1, opens.1, first_rank block q means.0 means.1 means.2 means.3, (refl, refl))

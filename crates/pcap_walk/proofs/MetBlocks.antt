-- Blocks that a walk meets.
use Rattle.std.proofs.Common.{◌≡◌, ◌+◌, ℕ, List, [], length, take, Bool, Option, Some, None, Ok, Err, refl, sym, ap, ◌∙◌, subst, arith, length-append}
use Rattle.std.specs.Prelude.{Result, IfSome}
use lib.Seq.{take-append_seam}
use Rattle.pcap_core.specs.declared.errors.PcapError.{PcapError}
use Rattle.pcap_core.specs.declared.common.Endianness.{Endianness}
use Rattle.pcap_core.specs.Answer.{whole}
use Rattle.pcap_items.specs.Lent.{HoldsText}
use Rattle.pcap_items.specs.Reading.{Pulls}
use Rattle.pcap_blocks.specs.declared.block_type.BlockType.TheVariants as types
use Rattle.pcap_blocks.specs.InterfaceDescription.{Interface}
use Rattle.pcap_blocks.specs.SectionHeader.{Section}
use Rattle.pcap_ng.specs.declared.pcapng.block_header.BlockHeader.{BlockHeader}
use Rattle.pcap_ng.specs.Blocks.{Item, block_format}
use Rattle.pcap_ng.specs.Frames.{Framed, frame_format}
use Rattle.pcap_ng.specs.Lent.{held_item, header_of, framed_around, body_in}
use Rattle.pcap_ng.specs.State.{State, order_at, within}
use Rattle.pcap_ng.proofs.BlockFormat.{blocks_lawful, goes_after}
use Rattle.pcap_ng.proofs.EnhancedFrames.{enhanced_long, packet_item, packet_says}
use Rattle.pcap_ng.proofs.Lent.{held_block}
use Rattle.pcap_walk.specs.declared.walking.Front.{Front}
use Rattle.pcap_walk.specs.MetBlocks.{EnhancedInFront, met_block}
use Rattle.pcap_walk.specs.Walks.{StandsInFront, HoldsNext}

-- The verdict of a block's text is that of the block with its header and text.
said_frame : (q : State) (item : Item) (t : List ℕ) → block_format.says q t (whole item []) → frame_format.says (order_at q) t (whole item.block [])
unfolding block_format frame_format
said_frame q item t text = text.frame

pub met : (q : State) (item : Item) (t : List ℕ) → block_format.says q t (whole item []) → block_format.says q t (whole (met_block item.after (header_of item.block) t) [])
met q item t says =
    let same : framed_around (header_of item.block) (body_in t) ≡ item.block = held_block (order_at q) item.block t (said_frame q item t says) in
    subst (λ (b : Framed). let i : Item = record { block = b; after = item.after } in block_format.says q t (whole i [])) (sym same) says

-- An enhanced packet that was found at the front of bytes is an item there.
pub enhanced_stands : (section : Section) (interfaces : List Interface) (e : Endianness) (s : List ℕ) (header : BlockHeader) (size : ℕ) → e ≡ order_at (within section interfaces) → EnhancedInFront e s header size
    → StandsInFront block_format (met_block (within section interfaces)) (within section interfaces) s header size
enhanced_stands section interfaces e s header size order_is found =
    let q = within section interfaces in
    let len = found.frame.0 in
    let item = packet_item e len found.body q in
    let long : length s ≡ len + length found.rest = enhanced_long e len found.body s found.rest found.frame.1 in
    let same : len ≡ size = omega (arith, long, found.long) in
    let own = blocks_lawful.own q s found.rest item (packet_says e section interfaces order_is len found.body s found.rest found.frame.1) in
    let count : length own.0 ≡ size = omega (arith, found.long, ap length own.1, length-append own.0 found.rest) in
    let front : take size s ≡ own.0 = ap (λ (k : ℕ). take k s) (sym count) ∙ ap (take (length own.0)) own.1 ∙ take-append_seam own.0 found.rest in
    let head : BlockHeader = record { type_ = types.EnhancedPacket; initial_len = len; endianness = e } in
    let is_header : head ≡ header = rw (sym found.type_is, sym (found.len_is ∙ sym same), sym found.order_is) refl in
    record {
      within = omega (arith, found.long);
      text = rw front (subst (λ (h : BlockHeader). block_format.says q own.0 (whole (met_block q h own.0) [])) is_header (met q item own.0 own.2));
      stays = goes_after q (met_block q header (take size s));
    }

-- The enhanced packet that was found at the front of bytes, if one was, is an item there.
pub enhanced_found : (section : Section) (interfaces : List Interface) (e : Endianness) (s : List ℕ) (found : Option (Front BlockHeader)) → e ≡ order_at (within section interfaces)
    → IfSome found (λ front. EnhancedInFront e s front.head front.size)
    → IfSome found (λ front. StandsInFront block_format (met_block (within section interfaces)) (within section interfaces) s front.head front.size)
enhanced_found section interfaces e s None order_is front = tt
enhanced_found section interfaces e s (Some x) order_is front = enhanced_stands section interfaces e s x.head x.size order_is front

-- A block that was held is the next item.
pub block_held : (q next : State) (before after : Option (List ℕ)) (held : List ℕ) (failed : Bool) (result : Result (Option BlockHeader) PcapError)
    → Pulls (block_format.says q) (held_item next held) before after failed result → HoldsText (block_format.says q) (held_item next held) before after held result
    → HoldsNext block_format (met_block next) q next before after held failed result
block_held q next before after held failed (Ok (Some header)) pulls text = (pulls.0, text.0, goes_after q (met_block next header held), text.1)
block_held q next before after held failed (Ok None) pulls text = pulls
block_held q next before after held failed (Err e) pulls text = pulls

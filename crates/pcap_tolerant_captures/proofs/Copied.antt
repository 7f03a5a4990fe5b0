-- Blocks read leniently that are copied or skipped.
use Rattle.std.proofs.Common.{◌≡◌, ℕ, List, [], Bool, refl, sym, subst, Ok, Some, None}
use Rattle.std.specs.Prelude.{Option}
use Rattle.std.specs.Option.{is_some}
use Rattle.pcap_core.specs.declared.common.Endianness.{Endianness}
use Rattle.pcap_core.specs.declared.errors.PcapError.{PcapError}
use Rattle.pcap_core.specs.Answer.{whole, lacks, faulty, Refuses}
use Rattle.pcap_items.specs.AsTheyCame.{HoldsNext, PassesBytes}
use Rattle.pcap_items.specs.Headed.{good}
use Rattle.pcap_items.specs.Reading.{Pulls}
use Rattle.pcap_items.proofs.Formats.{text_same}
use Rattle.pcap_items.proofs.Fronts.{said_not_refused}
use Rattle.pcap_blocks.specs.InterfaceDescription.{Interface}
use Rattle.pcap_blocks.specs.SectionHeader.{Section}
use Rattle.pcap_ng.specs.Frames.{Framed, FrameText, FrameSays, frame_format}
use Rattle.pcap_items.specs.Lent.{HoldsText}
use Rattle.pcap_ng.proofs.HeadedFrames.{frames_lawful}
use Rattle.pcap_tolerant_captures.specs.declared.parser.PcapNgParserAsIs.{PcapNgParserAsIs}
use Rattle.pcap_tolerant_captures.specs.declared.reader.LentAsIs.{LentAsIs}
use Rattle.pcap_tolerant_captures.specs.Blocks.{Item, as_is_format}
use Rattle.pcap_tolerant_captures.specs.Copies.{LeavesInForce}
use Rattle.pcap_tolerant_captures.specs.HeldAsIs.{held_item, state_in}
use Rattle.pcap_tolerant_captures.specs.State.{State, opening, within, order_at, Led, Role, leaves_all, role_of, MeansFor}

-- The held bytes are the next block, or there is none.
pub block_held : (q next : State) (before after : Option (List ℕ)) (held : List ℕ) (failed : Bool) (found : Option LentAsIs)
    → Pulls (as_is_format.says q) (held_item next held) before after failed (Ok found) → HoldsText (as_is_format.says q) (held_item next held) before after held (Ok found)
    → HoldsNext as_is_format q next before after held failed (Ok (is_some found))
unfolding as_is_format
block_held q next before after held failed (Some lent) pulls text = (pulls.0, record { item = held_item next held lent; text = text.0; leads = refl }, text.1)
block_held q next before after held failed None pulls text = (pulls.0, text, pulls.1, pulls.2)

-- ---- a block that leaves the state in force unchanged

-- Before the first section header there is no such block.
pub none_opens : (place : Option PcapNgParserAsIs) → ((parser : PcapNgParserAsIs) → place ≡ Some parser → ⊥)
    → (s : List ℕ) (item : Item) (after : List ℕ) → as_is_format.says (state_in place) s (whole item after) → LeavesInForce item → ⊥
unfolding as_is_format
none_opens None none s item after text leaves = subst (λ (role : Role). MeansFor role opening item.block (good item.led)) leaves text.means
none_opens (Some parser) none s item after text leaves = absurd (none parser refl)

module _ (section : Section) (interfaces : List (Option Interface)) (e : Endianness) (same : e ≡ order_at (within section interfaces)) (s : List ℕ) where
  -- A block of such a type.
  pub passes_block : (b : Framed) (after : List ℕ) → FrameText e b s after → role_of b.type_ ≡ leaves_all → PassesBytes as_is_format LeavesInForce (within section interfaces) s after
  unfolding as_is_format
  passes_block b after frame role =
      let there = subst (λ (o : Endianness). FrameText o b s after) same frame in
      let led : Led = record { flaws = []; after = within section interfaces } in
      record {
        item = record { block = b; led = led };
        text = record { frame = there; means = subst (λ (r : Role). MeansFor r (within section interfaces) b (good led)) (sym role) (refl, refl) };
        leaves = role;
        stays = refl;
      }

  -- If `s` begins with a block of another type, there is no such block.
  pub other_stands : (b : Framed) (rest : List ℕ) → FrameText e b s rest → (role_of b.type_ ≡ leaves_all → ⊥)
      → (item : Item) (after : List ℕ) → as_is_format.says (within section interfaces) s (whole item after) → LeavesInForce item → ⊥
  unfolding as_is_format frame_format
  other_stands b rest frame other item after text leaves =
      let there = subst (λ (o : Endianness). FrameText o b s rest) same frame in
      let is = text_same frame_format frames_lawful (order_at (within section interfaces)) item.block b s after rest text.frame there in
      other (subst (λ (x : Framed). role_of x.type_ ≡ leaves_all) is.0 leaves)

  -- If a frame is refused, there is no such block.
  pub refused_stands : (error : PcapError) → Refuses ⊥ (λ n. FrameSays e s (lacks n)) (λ fault. FrameSays e s (faulty fault)) error
      → (item : Item) (after : List ℕ) → as_is_format.says (within section interfaces) s (whole item after) → LeavesInForce item → ⊥
  unfolding as_is_format frame_format
  refused_stands error refuses item after text leaves =
      let there = subst (λ (o : Endianness). FrameText o item.block s after) (sym same) text.frame in
      said_not_refused (FrameSays e s) (frames_lawful.one e s) item.block after there error refuses

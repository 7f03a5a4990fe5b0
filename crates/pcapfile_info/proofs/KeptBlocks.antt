-- Lemmas on the progress, one block after another.
use Rattle.std.proofs.Common.{List, [], ◌∷◌, ◌++◌, inl, inr, refl, sym, ◌∙◌, append-nil, Option, Some}
use Rattle.std.specs.Prelude.{map}
use Rattle.std.specs.String.{string_bytes}
use Rattle.pcap_core.specs.declared.errors.PcapError.{PcapError}
use Rattle.pcap_core.specs.Errors.{IsMemory}
use Rattle.pcap_blocks.specs.declared.block_type.BlockType.TheVariants as types
use Rattle.pcap_blocks.specs.InterfaceDescription.{Interface}
use Rattle.pcap_blocks.specs.SectionHeader.{Section}
use Rattle.pcap_ng.specs.Blocks.{Item}
use Rattle.pcap_ng.specs.Frames.{Framed}
use Rattle.pcap_ng.specs.State.{State, within}
use Rattle.pcapfile_info.specs.declared.progress.Progress.{Progress}
use Rattle.pcapfile_info.specs.declared.seen.Sight.{Sight}
use Rattle.pcapfile_info.specs.Describing.{AddsDescribed, LosesNone, SameDescribed, told_of}
use Rattle.pcapfile_info.specs.KeptBlocks.{EndsBlocks, KeepsBlocks}
use Rattle.pcapfile_info.specs.Telling.{AddsNothing}
use Rattle.pcapfile_info.specs.Totals.{Adds}
use Rattle.pcapfile_info.proofs.Describing.{described_behind, described_more, front_kept, section_more}

-- The progress has one more block.
pub kept_more : (block : Framed) (section : Section) (interfaces : List Interface) (sight : Sight) (old new : Progress) → Adds sight old.totals new.totals → AddsDescribed block.type_ section interfaces old new
    → (first : State) (items : List Item) (sights : List Sight) → KeepsBlocks first items sights old → KeepsBlocks first (items ++ record { block = block; after = within section interfaces } ∷ []) (sights ++ sight ∷ []) new
kept_more block section interfaces sight old new adds describes first items sights kept = record {
  totals = adds 0 sights kept.totals;
  section = section_more items block section interfaces old new kept.section describes;
  described = described_more first items block section interfaces old new kept.described kept.section describes;
}

-- A packet adds no description.
pub packet_describes : (section : Section) (interfaces : List Interface) (old new : Progress) → SameDescribed old new → AddsDescribed types.EnhancedPacket section interfaces old new
packet_describes section interfaces old new same =
    let nothing : AddsDescribed types.EnhancedPacket section interfaces old old = record { section_is = refl; described_are = sym (append-nil (map told_of old.described.items)); comments_are = sym (append-nil (map string_bytes old.comments.items)) } in
    described_behind types.EnhancedPacket section interfaces old old new nothing same

-- A run ends with all that it has kept.
pub kept_ends : (fault : Option PcapError) (first : State) (items : List Item) (sights : List Sight) (progress : Progress) → KeepsBlocks first items sights progress → EndsBlocks fault first items sights progress
kept_ends fault first items sights progress kept = record { totals = kept.totals; described = inr kept.described }

-- The progress is of the same blocks.
pub kept_stays : (old new : Progress) → AddsNothing old new → SameDescribed old new → (first : State) (items : List Item) (sights : List Sight) → KeepsBlocks first items sights old → KeepsBlocks first items sights new
kept_stays old new nothing same first items sights kept = record {
  totals = nothing.2 0 sights kept.totals;
  section = same.0 ∙ kept.section;
  described = rw (same.1, same.2) kept.described;
}

-- A run that is out of memory ends with what it has counted.
pub counted_ends : (e : PcapError) → IsMemory e → (old new : Progress) → AddsNothing old new → LosesNone old new → (first : State) (items : List Item) (sights : List Sight) → KeepsBlocks first items sights old → EndsBlocks (Some e) first items sights new
counted_ends e memory old new nothing loses first items sights kept = record { totals = nothing.2 0 sights kept.totals; described = inl (memory, front_kept first items old new kept.described loses) }

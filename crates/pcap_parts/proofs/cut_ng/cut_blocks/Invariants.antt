use Rattle.std.proofs.Common.{◌≤◌, ◌+◌, length, drop}
use Rattle.std.specs.List.{AllByRecursion}
use Rattle.pcap_ng.specs.Blocks.{block_format}
use Rattle.pcap_ng.specs.Parser.{state_of}
use Rattle.pcap_parts.specs.NgParts.{IsWalked, ResumesAt, bounds_of}
use Rattle.pcap_parts.specs.Places.{IsPlaced, TellsPlaces}
use Rattle.pcap_parts.specs.declared.cut_ng.NgCut.{NgCut}
use Rattle.pcap_parts.proofs.Parted.{PartedSoFar}
use Rattle.pcap_parts.proofs.cut_ng.cut_blocks.Given as goal

abbrev pub invariant-loop-wanted : goal.invariant-loop-wanted
invariant-loop-wanted l = record {
  so_far : PartedSoFar block_format (state_of l.fn.walk.parser) l.slice (length l.bytes) l.parting l.left l.before (bounds_of l.cuts.items);
  walked : IsWalked l.bytes l.left (state_of l.walk.parser) l.walk.header (drop l.walk.first l.walk.interfaces.items);
  inside : l.walk.first ≤ length l.walk.interfaces.items;
  placed : IsPlaced l.bytes l.left (state_of l.walk.parser) l.walk.header l.walk.first l.walk.interfaces.items;
  before : AllByRecursion (λ (cut : NgCut). cut.at.offset + length l.left ≤ length l.bytes) l.cuts.items;
  each : AllByRecursion (TellsPlaces l.bytes l.walk.interfaces.items) l.cuts.items;
  resume : AllByRecursion (ResumesAt l.bytes l.walk.interfaces.items (state_of l.fn.walk.parser) l.slice) l.cuts.items;
}

abbrev pub decreases-loop-wanted : goal.decreases-loop-wanted
decreases-loop-wanted l = length l.left

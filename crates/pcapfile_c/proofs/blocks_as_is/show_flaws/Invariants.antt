use Rattle.std.proofs.Common.{◌≡◌, length, map, take, drop}
use Rattle.pcap_tolerant_blocks.specs.Flaws.{said_of}
use Rattle.pcapfile_c.specs.BlocksAsIs.{shown_flaw}
use Rattle.pcapfile_c.proofs.blocks_as_is.show_flaws.Given as goal

abbrev pub invariant-loop-i : goal.invariant-loop-i
invariant-loop-i l = record {
  filled : take l.i l.places ≡ map shown_flaw (take l.i (map said_of l.flaws));
  others : drop l.i l.places ≡ drop l.i l.fn.places;
  long : length l.places ≡ length l.fn.places;
}

use Rattle.std.proofs.Common.{◌≤◌, length, drop}
use Rattle.pcap_ng.specs.Blocks.{block_format}
use Rattle.pcap_ng.specs.Parser.{state_of}
use Rattle.pcap_parts.specs.NgParts.{GoesOn, IsWalked}
use Rattle.pcap_parts.specs.Places.{IsPlaced}
use Rattle.pcap_parts.proofs.Passing.{Passing}
use Rattle.pcap_parts.proofs.walk.Walk.skip.Given as goal

abbrev pub invariant-loop-after : goal.invariant-loop-after
invariant-loop-after l = record {
  passing : Passing block_format (state_of l.fn.self.parser) (state_of l.self.parser) l.slice l.after l.at_least l.items;
  walked : IsWalked l.bytes l.after (state_of l.self.parser) l.self.header (drop l.self.first l.self.interfaces.items);
  within : l.self.first ≤ length l.self.interfaces.items;
  placed : IsPlaced l.bytes l.after (state_of l.self.parser) l.self.header l.self.first l.self.interfaces.items;
  goes_on : GoesOn l.fn.self.interfaces.items l.self.interfaces.items;
}

abbrev pub decreases-loop-after : goal.decreases-loop-after
decreases-loop-after l = length l.after

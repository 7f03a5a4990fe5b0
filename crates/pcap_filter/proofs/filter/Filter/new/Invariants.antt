use Rattle.std.proofs.Common.{◌≡◌, ◌-◌, length, take, vec_len}
use Rattle.pcap_filter.specs.Programs.{AllMean}
use Rattle.pcap_filter.proofs.filter.Filter.new.Given as goal

abbrev pub invariant-loop-instruction : goal.invariant-loop-instruction
invariant-loop-instruction l = record {
  mean : AllMean (take l.instruction-index l.program) (length l.program - l.instruction-index) l.steps.items;
  count : vec_len l.steps ≡ l.instruction-index;
}

use Rattle.std.proofs.Common.{◌≤◌, List, length}
use Rattle.std.specs.Prelude.{All}
use Rattle.pcap_core.specs.Padded.{Chain}
use Rattle.pcap_options.specs.EnhancedOption.{enhanced_packet}
use Rattle.pcap_options.specs.Options.{OptionText}
use Rattle.pcap_options.specs.Values.{Entry}
use Rattle.pcapfile_values.specs.EnhancedOptions.{IsPassed}
use Rattle.pcapfile_values.proofs.enhanced_options.behind_some.Given as goal

abbrev pub invariant-loop-left : goal.invariant-loop-left
invariant-loop-left g l = record {
  within : length l.left ≤ length l.fn.slice;
  so_far : (options : List Entry) × Chain (OptionText g.B.ByteOrder.number_of enhanced_packet) options l.fn.slice l.left × All (λ option. IsPassed option.code) options;
}

abbrev pub decreases-loop-left : goal.decreases-loop-left
decreases-loop-left g l = length l.left

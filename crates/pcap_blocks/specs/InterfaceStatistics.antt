-- The body of interface statistics ('Interface Statistics Block').
use Rattle.std.specs.Prelude.{◌≡◌, ◌<◌, ℕ, List, [], length, map, All}
use Rattle.pcap_core.specs.Answer.{Order, Number, Verdict, Says}
use Rattle.pcap_core.specs.Faults.{Fault, Invalid}
use Rattle.pcap_core.specs.declared.rules.Rule.TheVariants.{StatisticsTooShort}
use Rattle.pcap_blocks.specs.declared.interface_statistics.InterfaceStatisticsBlock.{InterfaceStatisticsBlock}
use Rattle.pcap_core.specs.Padded.{Behind}
use Rattle.pcap_options.specs.Values.{Entry}
use Rattle.pcap_options.specs.Growth.{HoldsAfter}
use Rattle.pcap_options.specs.Options.{may_end_with_body, OptionList, ListFault, OptionsMayGrow}
use Rattle.pcap_blocks.specs.Time.{TimeText}
use Rattle.pcap_options.specs.StatisticsOption.{interface_statistics, statistics_entry, StatisticsOptionIsBorrowed, StatisticsOptionIsOwned}

-- Interface statistics, wherever their options are in memory.
pub record Statistics : Type 0 where
  pub interface_id : ℕ
  pub timestamp : ℕ
  pub options : List Entry

-- `s` is the body of interface statistics and then `rest`: the interface number, the time and the options.
pub record StatisticsText (order : Order) (statistics : Statistics) (s rest : List ℕ) : Type 0 where
  pub after_interface : List ℕ
  pub after_time : List ℕ
  pub interface_is : Number order 4 statistics.interface_id s after_interface
  pub time_is : TimeText order statistics.timestamp after_interface after_time
  pub options_are : OptionList may_end_with_body order interface_statistics statistics.options after_time rest

-- The first fault of `s` as the body of interface statistics: too few bytes, or the fault of the options.
pub data StatisticsFault (order : Order) (s : List ℕ) : Fault → Type 0 where
  short : length s < 12 → StatisticsFault order s (Invalid StatisticsTooShort)
  in_options : (fault : Fault) (after : List ℕ) → Behind 12 s after
      → ListFault may_end_with_body order interface_statistics after fault → StatisticsFault order s fault

-- StatisticsSays order s verdict: `s` read as the body of interface statistics gives this verdict, the statistics or a fault.
abbrev pub StatisticsSays : Order → List ℕ → Verdict Statistics → Type 0
StatisticsSays order s = Says (λ statistics rest. StatisticsText order statistics s rest) (λ n. ⊥) (StatisticsFault order s)

-- Reading interface statistics may allocate only if the statistics have an option.
abbrev pub StatisticsMayGrow : Order → List ℕ → Type 0
StatisticsMayGrow order = HoldsAfter 12 (OptionsMayGrow order interface_statistics)

-- The interface statistics of a block in the code.
abbrev pub statistics_of : InterfaceStatisticsBlock → Statistics
statistics_of block = record { interface_id = block.interface_id; timestamp = block.timestamp; options = map statistics_entry block.options.items }

-- All strings and bytes of the options are borrowed.
abbrev pub StatisticsIsBorrowed : InterfaceStatisticsBlock → Type 0
StatisticsIsBorrowed block = All StatisticsOptionIsBorrowed block.options.items

-- All strings and bytes of the options are owned.
abbrev pub StatisticsIsOwned : InterfaceStatisticsBlock → Type 0
StatisticsIsOwned block = All StatisticsOptionIsOwned block.options.items

-- Making interface statistics owned takes no memory: they have no options.
abbrev pub StatisticsNeedsNoMemory : InterfaceStatisticsBlock → Type 0
StatisticsNeedsNoMemory block = block.options.items ≡ []

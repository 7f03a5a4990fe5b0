-- Interface statistics read leniently ('Interface Statistics Block').
use Rattle.std.specs.Prelude.{◌≡◌, ◌<◌, ℕ, List, [], length, map, Option}
use Rattle.std.specs.Option.{option_map}
use Rattle.pcap_core.specs.declared.rules.Rule.{Rule}
use Rattle.pcap_core.specs.declared.rules.Rule.TheVariants.{StatisticsTooShort}
use Rattle.pcap_core.specs.Answer.{Order, Number, Verdict}
use Rattle.pcap_blocks.specs.Time.{TimeText}
use Rattle.pcap_options.specs.StatisticsOption.{interface_statistics}
use Rattle.pcap_blocks.specs.InterfaceStatistics.{Statistics, statistics_of}
use Rattle.pcap_tolerant_blocks.specs.Flaws.{Said, Flawed, said_of, IfRoom, IfRoomSays, KeepsSome}
use Rattle.pcap_tolerant_blocks.specs.OptionsAsIs.{OptionsAsIs}
use Rattle.pcap_tolerant_blocks.specs.declared.statistics.StatisticsAsIs.{StatisticsAsIs}

-- `s` is an interface, a time and options read leniently, with these flaws, followed by `rest`.
pub record AtTime (order : Order) (statistics : Statistics) (flaws : List Said) (s rest : List ℕ) : Type 0 where
  pub after_interface : List ℕ
  pub after_time : List ℕ
  pub interface_is : Number order 4 statistics.interface_id s after_interface
  pub time_is : TimeText order statistics.timestamp after_interface after_time
  pub options_are : OptionsAsIs order interface_statistics statistics.options flaws after_time rest

-- The rule for which `s` is no statistics: it has no room for the interface and the time.
abbrev pub NoTime : List ℕ → Rule → Type 0
NoTime s rule = (rule ≡ StatisticsTooShort) × (length s < 12)

-- `s` is statistics read leniently, with these flaws, followed by `rest`; or there are no statistics, and all of `s` is left.
abbrev pub StatisticsAsIsText : Order → Option Statistics → List Said → List ℕ → List ℕ → Type 0
StatisticsAsIsText order = IfRoom (AtTime order) NoTime

-- `s` is not statistics without flaws and options, so a list grows.
abbrev pub StatisticsGrow : Order → List ℕ → Type 0
StatisticsGrow order = KeepsSome (AtTime order) (λ x. x.options ≡ [])

-- The answers of lenient reading where the bytes should be statistics.
abbrev pub StatisticsAsIsSay : Order → List ℕ → Verdict (Flawed (Option Statistics)) → Type 0
StatisticsAsIsSay order = IfRoomSays (AtTime order) NoTime

-- The statistics that the code returned, if there are any.
abbrev pub statistics_in : StatisticsAsIs → Option Statistics
statistics_in x = option_map statistics_of x.statistics

-- The flaws of the statistics.
abbrev pub flaws_said : StatisticsAsIs → List Said
flaws_said x = map said_of x.flaws.items

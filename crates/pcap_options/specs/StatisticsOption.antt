-- The options of interface statistics ('Interface Statistics Block').
use Rattle.std.specs.Prelude.{◌∷◌}
use Rattle.pcap_options.specs.declared.statistics_option.InterfaceStatisticsOption.{InterfaceStatisticsOption}
use Rattle.pcap_options.specs.declared.statistics_option.InterfaceStatisticsOption.TheVariants as option_of
use Rattle.pcap_options.specs.Values.{Entry, Kind, string, first_number, first_time, custom}
use Rattle.pcap_options.specs.CommonOptions.{Carried, carries_string, carries_number, carries_custom_bytes, carries_custom_string, carries_unknown}

-- The codes and shapes of the options of interface statistics: comment, start and end time, numbers of packets, and the custom options.
abbrev pub interface_statistics : Kind
interface_statistics =
    (1, string)
    ∷ (2, first_time)
    ∷ (3, first_time)
    ∷ (4, first_number)
    ∷ (5, first_number)
    ∷ (6, first_number)
    ∷ (7, first_number)
    ∷ (8, first_number)
    ∷ custom

-- The contents of an option of interface statistics, by its variant.
abbrev pub statistics_carries : InterfaceStatisticsOption → Carried
statistics_carries (option_of.Comment t) = carries_string 1 t
statistics_carries (option_of.IsbStartTime n) = carries_number 2 n
statistics_carries (option_of.IsbEndTime n) = carries_number 3 n
statistics_carries (option_of.IsbIfRecv n) = carries_number 4 n
statistics_carries (option_of.IsbIfDrop n) = carries_number 5 n
statistics_carries (option_of.IsbFilterAccept n) = carries_number 6 n
statistics_carries (option_of.IsbOsDrop n) = carries_number 7 n
statistics_carries (option_of.IsbUsrDeliv n) = carries_number 8 n
statistics_carries (option_of.CustomBinary o) = carries_custom_bytes o
statistics_carries (option_of.CustomUtf8 o) = carries_custom_string o
statistics_carries (option_of.Unknown o) = carries_unknown o

-- The code and the value of an option of interface statistics.
abbrev pub statistics_entry : InterfaceStatisticsOption → Entry
statistics_entry o = (statistics_carries o).entry

-- The option's string or bytes, if it has any, are borrowed.
abbrev pub StatisticsOptionIsBorrowed : InterfaceStatisticsOption → Type 0
StatisticsOptionIsBorrowed o = (statistics_carries o).is_borrowed

-- The option's string or bytes, if it has any, are owned.
abbrev pub StatisticsOptionIsOwned : InterfaceStatisticsOption → Type 0
StatisticsOptionIsOwned o = (statistics_carries o).is_owned

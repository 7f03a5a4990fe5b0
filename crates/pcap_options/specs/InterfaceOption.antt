-- The options of an interface description ('Interface Description Block').
use Rattle.std.specs.Prelude.{◌∷◌}
use Rattle.pcap_core.specs.declared.rules.Rule.TheVariants as rules
use Rattle.pcap_options.specs.declared.interface_option.InterfaceDescriptionOption.{InterfaceDescriptionOption}
use Rattle.pcap_options.specs.declared.interface_option.InterfaceDescriptionOption.TheVariants as option_of
use Rattle.pcap_options.specs.Values.{Entry, Kind, string, some_bytes, fixed_bytes, byte, number, custom}
use Rattle.pcap_options.specs.CommonOptions.{Carried, carries_string, carries_bytes, carries_number, carries_custom_bytes, carries_custom_string, carries_unknown}

-- The codes and shapes of an interface's options: comment, name, description, addresses, speed, time, filter, system, frame check sequence,
-- hardware and the custom options.
abbrev pub interface_description : Kind
interface_description =
    (1, string)
    ∷ (2, string)
    ∷ (3, string)
    ∷ (4, fixed_bytes 8 rules.InterfaceIpv4Length)
    ∷ (5, fixed_bytes 17 rules.InterfaceIpv6Length)
    ∷ (6, fixed_bytes 6 rules.InterfaceMacLength)
    ∷ (7, number 8 rules.InterfaceEuiLength)
    ∷ (8, number 8 rules.InterfaceSpeedLength)
    ∷ (9, byte rules.InterfaceResolutionLength)
    ∷ (10, number 4 rules.InterfaceZoneLength)
    ∷ (11, some_bytes rules.InterfaceFilterEmpty)
    ∷ (12, string)
    ∷ (13, byte rules.InterfaceFcsLength)
    ∷ (14, number 8 rules.InterfaceOffsetLength)
    ∷ (15, string)
    ∷ custom

-- The contents of an interface's option, by its variant.
abbrev pub interface_carries : InterfaceDescriptionOption → Carried
interface_carries (option_of.Comment t) = carries_string 1 t
interface_carries (option_of.IfName t) = carries_string 2 t
interface_carries (option_of.IfDescription t) = carries_string 3 t
interface_carries (option_of.IfIpv4Addr b) = carries_bytes 4 b
interface_carries (option_of.IfIpv6Addr b) = carries_bytes 5 b
interface_carries (option_of.IfMacAddr b) = carries_bytes 6 b
interface_carries (option_of.IfEuIAddr n) = carries_number 7 n
interface_carries (option_of.IfSpeed n) = carries_number 8 n
interface_carries (option_of.IfTsResol n) = carries_number 9 n
interface_carries (option_of.IfTzone n) = carries_number 10 n
interface_carries (option_of.IfFilter b) = carries_bytes 11 b
interface_carries (option_of.IfOs t) = carries_string 12 t
interface_carries (option_of.IfFcsLen n) = carries_number 13 n
interface_carries (option_of.IfTsOffset n) = carries_number 14 n
interface_carries (option_of.IfHardware t) = carries_string 15 t
interface_carries (option_of.CustomBinary o) = carries_custom_bytes o
interface_carries (option_of.CustomUtf8 o) = carries_custom_string o
interface_carries (option_of.Unknown o) = carries_unknown o

-- The code and the value of an interface's option.
abbrev pub interface_entry : InterfaceDescriptionOption → Entry
interface_entry o = (interface_carries o).entry

-- The option's string or bytes, if it has any, are borrowed.
abbrev pub InterfaceOptionIsBorrowed : InterfaceDescriptionOption → Type 0
InterfaceOptionIsBorrowed o = (interface_carries o).is_borrowed

-- The option's string or bytes, if it has any, are owned.
abbrev pub InterfaceOptionIsOwned : InterfaceDescriptionOption → Type 0
InterfaceOptionIsOwned o = (interface_carries o).is_owned

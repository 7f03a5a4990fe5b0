-- The options of a name resolution block ('Name Resolution Block').
use Rattle.std.specs.Prelude.{◌∷◌}
use Rattle.pcap_core.specs.declared.rules.Rule.TheVariants.{NameIpv4Length, NameIpv6Length}
use Rattle.pcap_options.specs.declared.name_option.NameResolutionOption.{NameResolutionOption}
use Rattle.pcap_options.specs.declared.name_option.NameResolutionOption.TheVariants as option_of
use Rattle.pcap_options.specs.Values.{Entry, Kind, string, fixed_bytes, custom}
use Rattle.pcap_options.specs.CommonOptions.{Carried, carries_string, carries_bytes, carries_custom_bytes, carries_custom_string, carries_unknown}

-- The codes and shapes of a name resolution block's options: comment, the resolving server's name and addresses, and the custom options.
abbrev pub name_resolution : Kind
name_resolution = (1, string) ∷ (2, string) ∷ (3, fixed_bytes 4 NameIpv4Length) ∷ (4, fixed_bytes 16 NameIpv6Length) ∷ custom

-- The contents of a name resolution block's option, by its variant.
abbrev pub name_carries : NameResolutionOption → Carried
name_carries (option_of.Comment t) = carries_string 1 t
name_carries (option_of.NsDnsName t) = carries_string 2 t
name_carries (option_of.NsDnsIpv4Addr b) = carries_bytes 3 b
name_carries (option_of.NsDnsIpv6Addr b) = carries_bytes 4 b
name_carries (option_of.CustomBinary o) = carries_custom_bytes o
name_carries (option_of.CustomUtf8 o) = carries_custom_string o
name_carries (option_of.Unknown o) = carries_unknown o

-- The code and the value of a name resolution block's option.
abbrev pub name_entry : NameResolutionOption → Entry
name_entry o = (name_carries o).entry

-- The option's string or bytes, if it has any, are borrowed.
abbrev pub NameOptionIsBorrowed : NameResolutionOption → Type 0
NameOptionIsBorrowed o = (name_carries o).is_borrowed

-- The option's string or bytes, if it has any, are owned.
abbrev pub NameOptionIsOwned : NameResolutionOption → Type 0
NameOptionIsOwned o = (name_carries o).is_owned

-- The options of an enhanced packet ('Enhanced Packet Block').
use Rattle.std.specs.Prelude.{◌∷◌}
use Rattle.pcap_core.specs.declared.rules.Rule.TheVariants.{EnhancedFlagsLength, EnhancedDropCountLength}
use Rattle.pcap_options.specs.declared.enhanced_option.EnhancedPacketOption.{EnhancedPacketOption}
use Rattle.pcap_options.specs.declared.enhanced_option.EnhancedPacketOption.TheVariants as option_of
use Rattle.pcap_options.specs.Values.{Entry, Kind, string, bytes, number, custom}
use Rattle.pcap_options.specs.CommonOptions.{Carried, carries_string, carries_bytes, carries_number, carries_custom_bytes, carries_custom_string, carries_unknown}

-- The codes and shapes of an enhanced packet's options: comment, flags, hash, drop count and the custom options.
abbrev pub enhanced_packet : Kind
enhanced_packet = (1, string) ∷ (2, number 4 EnhancedFlagsLength) ∷ (3, bytes) ∷ (4, number 8 EnhancedDropCountLength) ∷ custom

-- The contents of an enhanced packet's option, by its variant.
abbrev pub enhanced_carries : EnhancedPacketOption → Carried
enhanced_carries (option_of.Comment t) = carries_string 1 t
enhanced_carries (option_of.Flags n) = carries_number 2 n
enhanced_carries (option_of.Hash b) = carries_bytes 3 b
enhanced_carries (option_of.DropCount n) = carries_number 4 n
enhanced_carries (option_of.CustomBinary o) = carries_custom_bytes o
enhanced_carries (option_of.CustomUtf8 o) = carries_custom_string o
enhanced_carries (option_of.Unknown o) = carries_unknown o

-- The code and the value of an enhanced packet's option.
abbrev pub enhanced_entry : EnhancedPacketOption → Entry
enhanced_entry o = (enhanced_carries o).entry

-- The option's string or bytes, if it has any, are borrowed.
abbrev pub EnhancedOptionIsBorrowed : EnhancedPacketOption → Type 0
EnhancedOptionIsBorrowed o = (enhanced_carries o).is_borrowed

-- The option's string or bytes, if it has any, are owned.
abbrev pub EnhancedOptionIsOwned : EnhancedPacketOption → Type 0
EnhancedOptionIsOwned o = (enhanced_carries o).is_owned

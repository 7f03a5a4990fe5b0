-- The options of a packet block ('Packet Block').
use Rattle.std.specs.Prelude.{◌∷◌}
use Rattle.pcap_core.specs.declared.rules.Rule.TheVariants.{PacketFlagsLength}
use Rattle.pcap_options.specs.declared.packet_option.PacketOption.{PacketOption}
use Rattle.pcap_options.specs.declared.packet_option.PacketOption.TheVariants as option_of
use Rattle.pcap_options.specs.Values.{Entry, Kind, string, bytes, number, custom}
use Rattle.pcap_options.specs.CommonOptions.{Carried, carries_string, carries_bytes, carries_number, carries_custom_bytes, carries_custom_string, carries_unknown}

-- The codes and shapes of a packet block's options: comment, flags, hash and the custom options.
abbrev pub packet_kind : Kind
packet_kind = (1, string) ∷ (2, number 4 PacketFlagsLength) ∷ (3, bytes) ∷ custom

-- The contents of a packet block's option, by its variant.
abbrev pub packet_carries : PacketOption → Carried
packet_carries (option_of.Comment t) = carries_string 1 t
packet_carries (option_of.Flags n) = carries_number 2 n
packet_carries (option_of.Hash b) = carries_bytes 3 b
packet_carries (option_of.CustomBinary o) = carries_custom_bytes o
packet_carries (option_of.CustomUtf8 o) = carries_custom_string o
packet_carries (option_of.Unknown o) = carries_unknown o

-- The code and the value of a packet block's option.
abbrev pub packet_entry : PacketOption → Entry
packet_entry o = (packet_carries o).entry

-- The option's string or bytes, if it has any, are borrowed.
abbrev pub PacketOptionIsBorrowed : PacketOption → Type 0
PacketOptionIsBorrowed o = (packet_carries o).is_borrowed

-- The option's string or bytes, if it has any, are owned.
abbrev pub PacketOptionIsOwned : PacketOption → Type 0
PacketOptionIsOwned o = (packet_carries o).is_owned

-- The options of a section header ('Section Header Block').
use Rattle.std.specs.Prelude.{◌∷◌}
use Rattle.pcap_options.specs.declared.section_option.SectionHeaderOption.{SectionHeaderOption}
use Rattle.pcap_options.specs.declared.section_option.SectionHeaderOption.TheVariants as option_of
use Rattle.pcap_options.specs.Values.{Entry, Kind, string, custom}
use Rattle.pcap_options.specs.CommonOptions.{Carried, carries_string, carries_custom_bytes, carries_custom_string, carries_unknown}

-- The codes and shapes of a section header's options: comment, hardware, operating system, application and the custom options.
abbrev pub section_header : Kind
section_header = (1, string) ∷ (2, string) ∷ (3, string) ∷ (4, string) ∷ custom

-- The contents of a section header's option, by its variant.
abbrev pub section_carries : SectionHeaderOption → Carried
section_carries (option_of.Comment t) = carries_string 1 t
section_carries (option_of.Hardware t) = carries_string 2 t
section_carries (option_of.OS t) = carries_string 3 t
section_carries (option_of.UserApplication t) = carries_string 4 t
section_carries (option_of.CustomBinary o) = carries_custom_bytes o
section_carries (option_of.CustomUtf8 o) = carries_custom_string o
section_carries (option_of.Unknown o) = carries_unknown o

-- The code and the value of a section header's option.
abbrev pub section_entry : SectionHeaderOption → Entry
section_entry o = (section_carries o).entry

-- The option's string or bytes, if it has any, are borrowed.
abbrev pub SectionOptionIsBorrowed : SectionHeaderOption → Type 0
SectionOptionIsBorrowed o = (section_carries o).is_borrowed

-- The option's string or bytes, if it has any, are owned.
abbrev pub SectionOptionIsOwned : SectionHeaderOption → Type 0
SectionOptionIsOwned o = (section_carries o).is_owned

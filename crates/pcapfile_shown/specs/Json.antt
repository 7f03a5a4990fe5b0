-- The JSON report on a capture.
use Rattle.std.specs.Prelude.{◌≡◌, ◌+◌, ◌-◌, ◌%◌, ◌^◌, ◌++◌, ℕ, List, String, map, codes, count_by, Bool, string_bytes, zip, if◌then◌else◌, Option, None, Some, IfSome, option_and_then}
use Rattle.std.specs.List.{AllZip, range_with_len}
use Rattle.std.specs.Fmt.{decimal}
use Rattle.std.specs.Global.{Global}
use Rattle.serde_json.specs.Data.{Data, Members, array, boolean, no_members, null, number, object, string, unsigned, put}
use Rattle.serde_json.specs.View.{items_of}
use Rattle.pcap_core.specs.Link.{link_number}
use Rattle.pcap_core.specs.LinkField.{fcs_bytes}
use Rattle.pcap_core.specs.declared.common.Endianness.{Endianness}
use Rattle.pcap_core.specs.declared.common.Endianness.TheVariants.{Big, Little}
use Rattle.pcap_classic.specs.Magic.{is_magic, order_of, resolution_of}
use Rattle.pcap_classic.specs.declared.common.TsResolution.{TsResolution}
use Rattle.pcap_classic.specs.declared.common.TsResolution.TheVariants.{MicroSecond, NanoSecond}
use Rattle.pcap_classic.specs.declared.pcap.header.PcapHeader.{PcapHeader}
use Rattle.pcap_times.specs.declared.clock.Timestamp.{Timestamp}
use Rattle.pcapfile_run.specs.Lines.{format_name, line_of, status_of}
use Rattle.pcapfile_run.specs.Passing.{counted}
use Rattle.pcapfile_run.specs.declared.checked.Checked.{Checked}
use Rattle.pcapfile_info.specs.declared.captures.Information.{Information}
use Rattle.pcapfile_info.specs.declared.described.Described.{Described}
use Rattle.pcapfile_info.specs.declared.described.Device.{Device}
use Rattle.pcapfile_info.specs.declared.described.Device.TheVariants.{Told, Untold}
use Rattle.pcapfile_info.specs.declared.described.DeviceTexts.{DeviceTexts}
use Rattle.pcapfile_info.specs.declared.described.Machine.{Machine}
use Rattle.pcapfile_info.specs.declared.described.Opened.{Opened}
use Rattle.pcapfile_info.specs.declared.late.Late.{Late}
use Rattle.pcapfile_info.specs.declared.others.Others.{Others}
use Rattle.pcapfile_info.specs.declared.spread.Spread.{Spread}
use Rattle.pcapfile_info.specs.declared.tally.Tally.{Tally}
use Rattle.pcapfile_info.specs.Spreads.{Rows, lies_in}
use Rattle.pcapfile_info.specs.Tallies.{tally_of}
use Rattle.pcapfile_shown.specs.Texts.{average_of, difference, hundredths_text, per_second, seconds_text, since_1970}

-- A JSON number.
abbrev pub number_data : ℕ → Data
number_data n = number (unsigned n)

-- An array of these numbers, in order.
abbrev pub numbers_data : List ℕ → Data
numbers_data ns = array (items_of (map number_data ns))

-- A value as JSON, or null if there is none.
abbrev pub or_null : (ℕ → Data) → Option ℕ → Data
or_null shown None = null
or_null shown (Some n) = shown n

-- Nanoseconds as a text in seconds.
abbrev pub seconds_data : ℕ → Data
seconds_data n = string (seconds_text n)

-- Hundredths as a text.
abbrev pub hundredths_data : ℕ → Data
hundredths_data n = string (hundredths_text n)

-- The nanoseconds from 1970 to a time, if there is one.
abbrev pub instant_in : Option Timestamp → Option ℕ
instant_in = option_and_then since_1970

-- The nanoseconds from the earliest to the latest of these packets, if both are known.
abbrev pub duration_in : Tally → Option ℕ
duration_in tally = difference (instant_in tally.earliest) (instant_in tally.latest)

-- Hundredths of a unit per second, if the duration is known.
abbrev pub rate_in : ℕ → Option ℕ → Option ℕ
rate_in count = option_and_then (per_second count)

-- The members on the number of packets and their bytes.
abbrev pub with_amounts : Tally → Members → Members
with_amounts tally members =
    put (codes "sizes") (numbers_data tally.sizes)
    (put (codes "average") (or_null hundredths_data (average_of tally.original tally.packets))
    (put (codes "stored") (number_data tally.stored)
    (put (codes "original") (number_data tally.original)
    (put (codes "packets") (number_data tally.packets) members))))

-- Whether the times of these packets are in order, or null if no packet has a time.
abbrev pub in_order_data : Option Timestamp → Bool → Data
in_order_data None in_order = null
in_order_data (Some latest) in_order = boolean in_order

-- The members on the times of packets.
abbrev pub with_times : Tally → Members → Members
with_times tally members =
    put (codes "in_order") (in_order_data tally.latest tally.in_order)
    (put (codes "duration") (or_null seconds_data (duration_in tally))
    (put (codes "latest") (or_null seconds_data (instant_in tally.latest))
    (put (codes "earliest") (or_null seconds_data (instant_in tally.earliest)) members)))

-- The members on packets and bytes per second.
abbrev pub with_rates : Tally → Members → Members
with_rates tally members =
    put (codes "bytes_per_second") (or_null hundredths_data (rate_in tally.original (duration_in tally)))
    (put (codes "packets_per_second") (or_null hundredths_data (rate_in tally.packets (duration_in tally))) members)

-- The members on the counts of these packets.
abbrev pub with_figures : Tally → Members → Members
with_figures tally members = with_rates tally (with_times tally (with_amounts tally members))

-- The number of these instants in each span of a row, from the first to the last.
abbrev pub counts_in : List ℕ → Spread → List ℕ
counts_in instants spread =
    map (λ span. counted (count_by (lies_in spread.width span) instants)) (range_with_len spread.first (spread.last - spread.first + 1))

-- The spread of packets over time, with these numbers of packets in its spans.
abbrev pub spread_data : List ℕ → Spread → Data
spread_data counts spread = object
    (put (codes "packets") (numbers_data counts)
    (put (codes "first") (number_data spread.first)
    (put (codes "width") (number_data spread.width) no_members)))

-- The numbers of packets are those of the instants that the row counts.
abbrev pub AreCountsOf : Spread → List ℕ → Type 0
AreCountsOf spread counts = (instants : List ℕ) → Rows instants spread → counts ≡ counts_in instants spread

-- The value shows the spread of instants, or null if there is none.
abbrev pub TellsSpread : Option Spread → Data → Type 0
TellsSpread None shown = shown ≡ null
TellsSpread (Some spread) shown = (counts : List ℕ) × AreCountsOf spread counts × (shown ≡ spread_data counts spread)

-- A text as JSON.
abbrev pub text_data : String Global → Data
text_data text = string (string_bytes text)

-- An array of these texts, in order.
abbrev pub texts_data : List (String Global) → Data
texts_data texts = array (items_of (map text_data texts))

-- A text, or null if there is none.
abbrev pub text_or_null : Option (String Global) → Data
text_or_null None = null
text_or_null (Some text) = text_data text

-- The members on a link type: its number, and this text as its name.
abbrev pub with_link : ℕ → List ℕ → Members → Members
with_link link name members = put (codes "link_name") (string name) (put (codes "link") (number_data link) members)

-- The members on the texts on a device.
abbrev pub with_texts : DeviceTexts → Members → Members
with_texts texts members =
    put (codes "os") (text_or_null texts.os)
    (put (codes "hardware") (text_or_null texts.hardware)
    (put (codes "description") (text_or_null texts.description) members))

-- The members on a device of which nothing is said.
abbrev pub with_no_texts : Members → Members
with_no_texts members = put (codes "os") null (put (codes "hardware") null (put (codes "description") null members))

-- The members on an interface's device, null where the interface says nothing.
abbrev pub with_device : Device → Members → Members
with_device (Told texts) members = with_texts texts.value members
with_device Untold members = with_no_texts members

-- The members on the description of an interface whose link type has this name.
abbrev pub with_description : Described → List ℕ → Members → Members
with_description described link_name members =
    with_link (link_number described.link) link_name
    (with_device described.device
    (put (codes "comments") (texts_data described.comments.items)
    (put (codes "name") (text_or_null described.name)
    (put (codes "snaplen") (number_data described.snaplen)
    (put (codes "number") (number_data described.number)
    (put (codes "section") (number_data described.section) members))))))

-- The value shows an interface: its description, the counts of its packets, and their spread over time.
abbrev pub TellsInterface : Described × Late → Data → Type 0
TellsInterface interface shown =
    (link_name : List ℕ) × (spread : Data) × TellsSpread (tally_of interface.1).spread spread
    × (shown ≡ object (put (codes "over_time") spread (with_figures (tally_of interface.1) (with_description interface.0 link_name no_members))))

-- A version.
abbrev pub version_data : ℕ → ℕ → Data
version_data major minor = string (decimal major ++ (codes "." ++ decimal minor))

-- A byte order.
abbrev pub order_data : Endianness → Data
order_data Big = string (codes "big-endian")
order_data Little = string (codes "little-endian")

-- A timestamp resolution.
abbrev pub resolution_data : TsResolution → Data
resolution_data MicroSecond = string (codes "microseconds")
resolution_data NanoSecond = string (codes "nanoseconds")

-- The members on byte order and timestamp resolution, if the magic number names them.
abbrev pub with_kind : ℕ → Members → Members
with_kind magic members =
    if is_magic magic
    then put (codes "resolution") (resolution_data (resolution_of magic)) (put (codes "order") (order_data (order_of magic)) members)
    else members

-- The number of the link type of a classic capture, in the low 16 bits of the header's field ('File Header', LinkType).
abbrev pub link_of_header : PcapHeader → ℕ
link_of_header header = link_number header.datalink % 2 ^ 16

-- The members on the field of a link type: the link type, with this name, and the length of a frame check sequence, or null.
abbrev pub with_link_field : PcapHeader → List ℕ → Members → Members
with_link_field header link_name members =
    put (codes "fcs_len") (or_null number_data (fcs_bytes (link_number header.datalink))) (with_link (link_of_header header) link_name members)

-- The members on the header of a classic capture whose link type has this name.
abbrev pub with_header : PcapHeader → List ℕ → Members → Members
with_header header link_name members =
    with_kind header.magic_number (with_link_field header link_name
    (put (codes "snaplen") (number_data header.snaplen)
    (put (codes "version") (version_data header.version_major header.version_minor) members)))

-- The members on a classic capture's header follow the others; without a header there are none.
abbrev pub TellsHeader : Option PcapHeader → Members → Members → Type 0
TellsHeader None before after = after ≡ before
TellsHeader (Some header) before after = (link_name : List ℕ) × (after ≡ with_header header link_name before)

-- The members on a PcapNg capture's first section header, if there is one.
abbrev pub with_opened : Option Opened → Members → Members
with_opened None members = members
with_opened (Some opened) members =
    put (codes "order") (order_data opened.order)
    (put (codes "version") (version_data opened.major_version opened.minor_version) members)

-- The members on a file's name, its format, and the result of its check, which is also given as a line.
abbrev pub with_check : List ℕ → Checked → List ℕ → Members → Members
with_check name checked line members =
    put (codes "bytes") (number_data checked.bytes)
    (put (codes "status") (number_data (status_of checked.end))
    (put (codes "check") (string line)
    (put (codes "format") (string (format_name checked.format))
    (put (codes "file") (string name) members))))

-- The members on a file's name, format and check follow the others; the line is the check's own if that is known.
abbrev pub TellsCheck : List ℕ → Checked → Members → Members → Type 0
TellsCheck name checked before after =
    (line : List ℕ) × IfSome (line_of checked) (λ known. line ≡ known) × (after ≡ with_check name checked line before)

-- The members on a file's name, format, check and opening follow the others.
abbrev pub TellsFile : List ℕ → Information → Members → Members → Type 0
TellsFile name told before after =
    (checked made : Members) × TellsCheck name told.checked before checked × TellsHeader told.header checked made
    × (after ≡ with_opened told.opened made)

-- The members on how the first section was made.
abbrev pub with_machine : Machine → Members → Members
with_machine machine members =
    put (codes "os") (text_or_null machine.os)
    (put (codes "hardware") (text_or_null machine.hardware)
    (put (codes "application") (text_or_null machine.application) members))

-- An object with the number of blocks of each kind.
abbrev pub others_data : Others → Data
others_data others = object
    (put (codes "unknown") (number_data others.unknown)
    (put (codes "custom") (number_data others.custom)
    (put (codes "secrets") (number_data others.secrets)
    (put (codes "journal") (number_data others.journal)
    (put (codes "statistics") (number_data others.statistics)
    (put (codes "names") (number_data others.names) no_members))))))

-- The member on the digest of a file's bytes, if the digest is given.
abbrev pub with_digest : Option (List ℕ) → Members → Members
with_digest None members = members
with_digest (Some digest) members = put (codes "sha256") (string digest) members

-- The members on the capture of this name and digest, except its interfaces: its file, comments, the spread of its packets, and all counts.
abbrev pub TellsWhole : List ℕ → Option (List ℕ) → Information → Members → Type 0
TellsWhole name digest told members =
    (file : Members) × (spread : Data) × TellsFile name told no_members file × TellsSpread told.totals.all.spread spread
    × (members ≡ with_figures told.totals.all
    (put (codes "blocks") (others_data told.totals.others)
    (put (codes "refused") (number_data told.totals.refused)
    (put (codes "sections") (number_data (counted (told.totals.sections + 1)))
    (put (codes "over_time") spread
    (put (codes "comments") (texts_data told.comments.items) (with_machine told.machine (with_digest digest file))))))))

-- The values show the interfaces, in order.
abbrev pub TellsInterfaces : Information → List Data → Type 0
TellsInterfaces told = AllZip TellsInterface (zip told.described.items told.totals.interfaces.items)

-- The value shows the capture of this name and digest: the capture as a whole, and its interfaces.
abbrev pub Tells : List ℕ → Option (List ℕ) → Information → Data → Type 0
Tells name digest told shown =
    (members : Members) × (interfaces : List Data) × TellsWhole name digest told members × TellsInterfaces told interfaces
    × (shown ≡ object (put (codes "interfaces") (array (items_of interfaces)) members))

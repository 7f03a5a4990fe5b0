-- Lemmas on JSON without floats.
use Rattle.std.specs.Prelude.{⊤, ◌≡◌, ◌+◌, ◌++◌, ◌∷◌, [], ℕ, List, Bool, true, false, String, codes, map, Option, None, Some, if◌then◌else◌}
use Rattle.std.specs.Fmt.{decimal}
use Rattle.std.specs.Global.{Global}
use Rattle.std.proofs.Common.{◌∙◌, ap, refl}
use Rattle.serde_json.specs.Data.{Data, Members, no_members, null, number, unsigned, string, put}
use Rattle.serde_json.specs.View.{items_of}
use Rattle.serde_json.specs.Written.{has_float, items_have_float, members_have_float}
use Rattle.pcap_core.specs.Link.{link_number}
use Rattle.pcap_core.specs.LinkField.{fcs_bytes}
use Rattle.pcap_core.specs.declared.common.Endianness.{Endianness}
use Rattle.pcap_core.specs.declared.common.Endianness.TheVariants.{Big, Little}
use Rattle.pcap_classic.specs.Magic.{is_magic, order_of, resolution_of}
use Rattle.pcap_classic.specs.declared.common.TsResolution.{TsResolution}
use Rattle.pcap_classic.specs.declared.common.TsResolution.TheVariants.{MicroSecond, NanoSecond}
use Rattle.pcap_classic.specs.declared.pcap.header.PcapHeader.{PcapHeader}
use Rattle.pcap_times.specs.declared.clock.Timestamp.{Timestamp}
use Rattle.pcapfile_run.specs.Lines.{format_name, status_of}
use Rattle.pcapfile_run.specs.Passing.{counted}
use Rattle.pcapfile_run.specs.declared.checked.Checked.{Checked}
use Rattle.pcapfile_info.specs.declared.captures.Information.{Information}
use Rattle.pcapfile_info.specs.declared.described.Described.{Described}
use Rattle.pcapfile_info.specs.declared.described.Device.{Device}
use Rattle.pcapfile_info.specs.declared.described.Device.TheVariants.{Told, Untold}
use Rattle.pcapfile_info.specs.declared.described.Machine.{Machine}
use Rattle.pcapfile_info.specs.declared.described.Opened.{Opened}
use Rattle.pcapfile_info.specs.declared.late.Late.{Late}
use Rattle.pcapfile_info.specs.declared.others.Others.{Others}
use Rattle.pcapfile_info.specs.declared.spread.Spread.{Spread}
use Rattle.pcapfile_info.specs.declared.tally.Tally.{Tally}
use Rattle.pcapfile_info.specs.Tallies.{tally_of}
use Rattle.pcapfile_shown.specs.Json.{hundredths_data, number_data, order_data, or_null, resolution_data, seconds_data, text_data, text_or_null}
use Rattle.pcapfile_shown.specs.Json.{TellsCheck, TellsFile, TellsHeader, TellsInterface, TellsSpread, TellsWhole}
use Rattle.pcapfile_shown.specs.Json.{link_of_header, with_description, with_device, with_digest, with_figures, with_kind, with_link, with_link_field, with_machine, with_opened}
use Rattle.pcapfile_shown.specs.Json.{duration_in, in_order_data, instant_in, numbers_data, others_data, rate_in, texts_data, version_data}
use Rattle.pcapfile_shown.specs.Sums.{total_members}
use Rattle.pcapfile_shown.specs.Texts.{average_of}
use Rattle.pcapfile_shown.specs.declared.total.Total.{Total}
use Rattle.pcapfile_shown.proofs.Pieces.{put_plain}

-- No member has a float.
abbrev IsPlain : Members → Type 0
IsPlain members = members_have_float members ≡ false

numbers_plain : (ns : List ℕ) → items_have_float (items_of (map number_data ns)) ≡ false
numbers_plain [] = refl
numbers_plain (n ∷ ns) = numbers_plain ns

texts_plain : (texts : List (String Global)) → items_have_float (items_of (map text_data texts)) ≡ false
texts_plain [] = refl
texts_plain (text ∷ texts) = texts_plain texts

hundredths_plain : (o : Option ℕ) → has_float (or_null hundredths_data o) ≡ false
hundredths_plain None = refl
hundredths_plain (Some n) = refl

seconds_plain : (o : Option ℕ) → has_float (or_null seconds_data o) ≡ false
seconds_plain None = refl
seconds_plain (Some n) = refl

length_plain : (o : Option ℕ) → has_float (or_null number_data o) ≡ false
length_plain None = refl
length_plain (Some n) = refl

text_plain : (o : Option (String Global)) → has_float (text_or_null o) ≡ false
text_plain None = refl
text_plain (Some text) = refl

in_order_plain : (latest : Option Timestamp) (in_order : Bool) → has_float (in_order_data latest in_order) ≡ false
in_order_plain None in_order = refl
in_order_plain (Some time) in_order = refl

order_plain : (order : Endianness) → has_float (order_data order) ≡ false
order_plain Big = refl
order_plain Little = refl

resolution_plain : (resolution : TsResolution) → has_float (resolution_data resolution) ≡ false
resolution_plain MicroSecond = refl
resolution_plain NanoSecond = refl

choice_plain : (b : Bool) (one other : Members) → IsPlain one → IsPlain other → IsPlain (if b then one else other)
choice_plain true one other first second = first
choice_plain false one other first second = second

-- These members are put among others, the first one last.
abbrev puts : List (List ℕ × Data) → Members → Members
puts [] ms = ms
puts (p ∷ ps) ms = put p.0 p.1 (puts ps ms)

-- The data have no float.
abbrev ArePlain : List (List ℕ × Data) → Type 0
ArePlain [] = ⊤
ArePlain (p ∷ ps) = (has_float p.1 ≡ false) × ArePlain ps

puts_plain : (ps : List (List ℕ × Data)) (ms : Members) → ArePlain ps → IsPlain ms → IsPlain (puts ps ms)
puts_plain [] ms are plain = plain
puts_plain (p ∷ ps) ms (first, are) plain = put_plain p.0 p.1 (puts ps ms) first (puts_plain ps ms are plain)

-- The members on the counts of these packets, the last one first.
abbrev figures : Tally → List (List ℕ × Data)
figures tally =
    (codes "bytes_per_second", or_null hundredths_data (rate_in tally.original (duration_in tally)))
    ∷ (codes "packets_per_second", or_null hundredths_data (rate_in tally.packets (duration_in tally)))
    ∷ (codes "in_order", in_order_data tally.latest tally.in_order)
    ∷ (codes "duration", or_null seconds_data (duration_in tally))
    ∷ (codes "latest", or_null seconds_data (instant_in tally.latest))
    ∷ (codes "earliest", or_null seconds_data (instant_in tally.earliest))
    ∷ (codes "sizes", numbers_data tally.sizes)
    ∷ (codes "average", or_null hundredths_data (average_of tally.original tally.packets))
    ∷ (codes "stored", number_data tally.stored)
    ∷ (codes "original", number_data tally.original)
    ∷ (codes "packets", number_data tally.packets)
    ∷ []

figures_plain : (tally : Tally) (ms : Members) → IsPlain ms → IsPlain (with_figures tally ms)
figures_plain tally ms plain = puts_plain (figures tally) ms (
  hundredths_plain (rate_in tally.original (duration_in tally)),
  (
    hundredths_plain (rate_in tally.packets (duration_in tally)),
    (
      in_order_plain tally.latest tally.in_order,
      (
        seconds_plain (duration_in tally),
        (
          seconds_plain (instant_in tally.latest),
          (
            seconds_plain (instant_in tally.earliest),
            (
              numbers_plain tally.sizes,
              (
                hundredths_plain (average_of tally.original tally.packets),
                (refl, (refl, (refl, tt))),
              ),
            ),
          ),
        ),
      ),
    ),
  ),
) plain

-- The members on a link type, the last one first.
abbrev link : ℕ → List ℕ → List (List ℕ × Data)
link type name = (codes "link_name", string name) ∷ (codes "link", number_data type) ∷ []

-- The members on an interface's device, the last one first.
abbrev device : Device → List (List ℕ × Data)
device (Told texts) = (codes "os", text_or_null texts.value.os) ∷ (codes "hardware", text_or_null texts.value.hardware) ∷ (codes "description", text_or_null texts.value.description) ∷ []
device Untold = (codes "os", null) ∷ (codes "hardware", null) ∷ (codes "description", null) ∷ []

device_plain : (told : Device) (ms : Members) → IsPlain ms → IsPlain (with_device told ms)
device_plain (Told texts) ms plain =
    puts_plain (device (Told texts)) ms (text_plain texts.value.os, (text_plain texts.value.hardware, (text_plain texts.value.description, tt))) plain
device_plain Untold ms plain = puts_plain (device Untold) ms (refl, (refl, (refl, tt))) plain

-- The members on the description of an interface, the last one first.
abbrev description : Described → List (List ℕ × Data)
description described =
    (codes "comments", texts_data described.comments.items)
    ∷ (codes "name", text_or_null described.name)
    ∷ (codes "snaplen", number_data described.snaplen)
    ∷ (codes "number", number_data described.number)
    ∷ (codes "section", number_data described.section)
    ∷ []

description_plain : (described : Described) (name : List ℕ) → IsPlain (with_description described name no_members)
description_plain described name =
    let front = puts (description described) no_members in
    let front_plain = puts_plain (description described) no_members (texts_plain described.comments.items, (text_plain described.name, (refl, (refl, (refl, tt))))) refl in
    puts_plain (link (link_number described.link) name) (with_device described.device front) (refl, (refl, tt)) (device_plain described.device front front_plain)

spread_plain : (spread : Option Spread) (shown : Data) → TellsSpread spread shown → has_float shown ≡ false
spread_plain None shown is = ap has_float is
spread_plain (Some spread) shown (counts, are, is) =
    ap has_float is
    ∙ puts_plain ((codes "packets", numbers_data counts) ∷ (codes "first", number_data spread.first) ∷ (codes "width", number_data spread.width) ∷ []) no_members
    (numbers_plain counts, (refl, (refl, tt))) refl

-- The JSON of an interface has no float.
pub interface_plain : (interface : Described × Late) (shown : Data) → TellsInterface interface shown → has_float shown ≡ false
interface_plain interface shown (link_name, spread, tells, is) =
    let tally : Tally = tally_of interface.1 in
    let described : Members = with_description interface.0 link_name no_members in
    ap has_float is
    ∙ put_plain (codes "over_time") spread (with_figures tally described) (spread_plain tally.spread spread tells) (figures_plain tally described (description_plain interface.0 link_name))

-- The members on a check, the last one first.
abbrev check : List ℕ → Checked → List ℕ → List (List ℕ × Data)
check name checked line =
    (codes "bytes", number_data checked.bytes)
    ∷ (codes "status", number_data (status_of checked.end))
    ∷ (codes "check", string line)
    ∷ (codes "format", string (format_name checked.format))
    ∷ (codes "file", string name)
    ∷ []

check_plain : (name : List ℕ) (checked : Checked) (after : Members) → TellsCheck name checked no_members after → IsPlain after
check_plain name checked after (line, known, is) = ap members_have_float is ∙ puts_plain (check name checked line) no_members (refl, (refl, (refl, (refl, (refl, tt))))) refl

-- The members on byte order and timestamp resolution, the last one first.
abbrev kind : ℕ → List (List ℕ × Data)
kind magic = (codes "resolution", resolution_data (resolution_of magic)) ∷ (codes "order", order_data (order_of magic)) ∷ []

kind_plain : (magic : ℕ) (ms : Members) → IsPlain ms → IsPlain (with_kind magic ms)
kind_plain magic ms plain =
    choice_plain (is_magic magic) (puts (kind magic) ms) ms (puts_plain (kind magic) ms (resolution_plain (resolution_of magic), (order_plain (order_of magic), tt)) plain) plain

-- The members on a header's version and snapshot length, the last one first.
abbrev version : PcapHeader → List (List ℕ × Data)
version header = (codes "snaplen", number_data header.snaplen) ∷ (codes "version", version_data header.version_major header.version_minor) ∷ []

header_plain : (header : Option PcapHeader) (before after : Members) → TellsHeader header before after → IsPlain before → IsPlain after
header_plain None before after is plain = ap members_have_float is ∙ plain
header_plain (Some header) before after (link_name, is) plain =
    let first : Members = puts (version header) before in
    let linked : Members = with_link (link_of_header header) link_name first in
    let fcs : Option ℕ = fcs_bytes (link_number header.datalink) in
    ap members_have_float is
    ∙ kind_plain header.magic_number (with_link_field header link_name first) (put_plain (codes "fcs_len") (or_null number_data fcs) linked (length_plain fcs)
    (puts_plain (link (link_of_header header) link_name) first (refl, (refl, tt)) (puts_plain (version header) before (refl, (refl, tt)) plain)))

opened_plain : (opened : Option Opened) (ms : Members) → IsPlain ms → IsPlain (with_opened opened ms)
opened_plain None ms plain = plain
opened_plain (Some opened) ms plain =
    puts_plain ((codes "order", order_data opened.order) ∷ (codes "version", version_data opened.major_version opened.minor_version) ∷ []) ms (order_plain opened.order, (refl, tt)) plain

file_plain : (name : List ℕ) (told : Information) (after : Members) → TellsFile name told no_members after → IsPlain after
file_plain name told after (checked, made, check, header, is) =
    ap members_have_float is ∙ opened_plain told.opened made (header_plain told.header checked made header (check_plain name told.checked checked check))

-- The members on how a section was made, the last one first.
abbrev machine : Machine → List (List ℕ × Data)
machine told = (codes "os", text_or_null told.os) ∷ (codes "hardware", text_or_null told.hardware) ∷ (codes "application", text_or_null told.application) ∷ []

machine_plain : (told : Machine) (ms : Members) → IsPlain ms → IsPlain (with_machine told ms)
machine_plain told ms plain = puts_plain (machine told) ms (text_plain told.os, (text_plain told.hardware, (text_plain told.application, tt))) plain

-- The members on blocks by kind, the last one first.
abbrev kinds : Others → List (List ℕ × Data)
kinds others =
    (codes "unknown", number_data others.unknown)
    ∷ (codes "custom", number_data others.custom)
    ∷ (codes "secrets", number_data others.secrets)
    ∷ (codes "journal", number_data others.journal)
    ∷ (codes "statistics", number_data others.statistics)
    ∷ (codes "names", number_data others.names)
    ∷ []

others_plain : (others : Others) → has_float (others_data others) ≡ false
others_plain others = puts_plain (kinds others) no_members (refl, (refl, (refl, (refl, (refl, (refl, tt)))))) refl

digest_plain : (digest : Option (List ℕ)) (ms : Members) → IsPlain ms → IsPlain (with_digest digest ms)
digest_plain None ms plain = plain
digest_plain (Some digest) ms plain = put_plain (codes "sha256") (string digest) ms refl plain

-- The members on the capture as a whole have no float.
pub whole_plain : (name : List ℕ) (digest : Option (List ℕ)) (told : Information) (members : Members) → TellsWhole name digest told members → members_have_float members ≡ false
whole_plain name digest told members (file, spread, tells_file, tells_spread, is) =
    let begun : Members = with_digest digest file in
    let others : List (List ℕ × Data) =
    (codes "blocks", others_data told.totals.others)
    ∷ (codes "refused", number_data told.totals.refused)
    ∷ (codes "sections", number_data (counted (told.totals.sections + 1)))
    ∷ (codes "over_time", spread)
    ∷ (codes "comments", texts_data told.comments.items)
    ∷ [] in
    ap members_have_float is
    ∙ figures_plain told.totals.all (puts others (with_machine told.machine begun))
    (puts_plain others (with_machine told.machine begun) (others_plain told.totals.others, (refl, (refl, (spread_plain told.totals.all.spread spread tells_spread, (texts_plain told.comments.items, tt)))))
    (machine_plain told.machine begun (digest_plain digest file (file_plain name told file tells_file))))

-- The members of totals have no float.
pub total_plain : (total : Total) (status : ℕ) (members : Members) → members ≡ total_members total status → members_have_float members ≡ false
total_plain total status members is =
    let others : List (List ℕ × Data) =
    (codes "refused", number_data total.refused)
    ∷ (codes "bytes", number_data total.bytes)
    ∷ (codes "status", number_data status)
    ∷ (codes "files", number_data total.files)
    ∷ [] in
    ap members_have_float is ∙ figures_plain total.counts (puts others no_members) (puts_plain others no_members (refl, (refl, (refl, (refl, tt)))) refl)

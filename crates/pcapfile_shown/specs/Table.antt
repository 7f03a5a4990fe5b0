-- The rows of a table of captures.
use Rattle.std.specs.Prelude.{◌≡◌, ◌==◌, ◌+◌, ◌++◌, ℕ, List, Bool, codes, length, slice_get, Option, None, Some, IfSome, MatchBool, option_map}
use Rattle.std.specs.List.{list_all}
use Rattle.std.specs.Fmt.{decimal}
use Rattle.pcap_core.specs.Link.{link_number}
use Rattle.pcap_classic.specs.declared.pcap.header.PcapHeader.{PcapHeader}
use Rattle.pcapfile_run.specs.Lines.{format_name, line_of, status_of}
use Rattle.pcapfile_run.specs.Passing.{counted}
use Rattle.pcapfile_lines.specs.Lines.{IsUtcText}
use Rattle.pcapfile_info.specs.declared.captures.Information.{Information}
use Rattle.pcapfile_info.specs.declared.described.Described.{Described}
use Rattle.pcapfile_info.specs.declared.tally.Tally.{Tally}
use Rattle.pcapfile_shown.specs.Json.{duration_in, link_of_header, rate_in}
use Rattle.pcapfile_shown.specs.Texts.{average_of, hundredths_text, seconds_text}

-- Two texts are columns of a row, with a tab between them.
abbrev pub beside : List ℕ → List ℕ → List ℕ
beside left right = left ++ (codes "\t" ++ right)

-- A value's text, or a hyphen if there is no value.
abbrev pub or_hyphen : (ℕ → List ℕ) → Option ℕ → List ℕ
or_hyphen shown None = codes "-"
or_hyphen shown (Some n) = shown n

-- The columns on amounts: packets, bytes of the file, bytes on the wire, and stored bytes.
abbrev pub amounts : ℕ → Tally → List ℕ
amounts bytes tally = beside (decimal tally.packets) (beside (decimal bytes) (beside (decimal tally.original) (decimal tally.stored)))

-- The text has the columns on times: the earliest and the latest in UTC, and the seconds between them.
abbrev pub AreTimes : Tally → List ℕ → Type 0
AreTimes tally text =
    (earliest latest : List ℕ) × IsUtcText tally.earliest earliest × IsUtcText tally.latest latest
    × (text ≡ beside earliest (beside latest (or_hyphen seconds_text (duration_in tally))))

-- The columns on rates: the average size, packets per second, and bytes per second.
abbrev pub rates : Tally → List ℕ
rates tally =
    beside (or_hyphen hundredths_text (average_of tally.original tally.packets))
    (beside (or_hyphen hundredths_text (rate_in tally.packets (duration_in tally)))
    (or_hyphen hundredths_text (rate_in tally.original (duration_in tally))))

-- The text has the columns on the packets and bytes of files with so many bytes: amounts, times and rates.
abbrev pub AreFigures : ℕ → Tally → List ℕ → Type 0
AreFigures bytes tally text = (times : List ℕ) × AreTimes tally times × (text ≡ beside (amounts bytes tally) (beside times (rates tally)))

-- The last columns: interfaces, link type, packets with a malformed body, status, and the result of the check.
abbrev pub ending : ℕ → List ℕ → ℕ → ℕ → List ℕ → List ℕ
ending interfaces link refused status check =
    beside (decimal interfaces) (beside link (beside (decimal refused) (beside (decimal status) check)))

-- A row: name, format, figures, and the last columns.
abbrev pub row : List ℕ → List ℕ → List ℕ → List ℕ → List ℕ
row name format figures last = name ++ (codes "\t" ++ (format ++ (codes "\t" ++ (figures ++ (codes "\t" ++ (last ++ codes "\n"))))))

-- The interface has the link type of this number.
abbrev pub has_link : ℕ → Described → Bool
has_link number described = link_number described.link == number

-- The text is the link type of this number: a name, and the number.
abbrev pub IsLinkText : ℕ → List ℕ → Type 0
IsLinkText number text = (name : List ℕ) × (text ≡ name ++ (codes " (" ++ (decimal number ++ codes ")")))

-- The text shows the link type of this number if all these interfaces have it, and the word several otherwise.
abbrev pub ShowsShared : ℕ → List Described → List ℕ → Type 0
ShowsShared number described text = MatchBool (list_all (has_link number) described) (IsLinkText number text) (text ≡ codes "several")

-- The number of the link type of a capture's first interface, if there is one. The header of a classic capture counts as an interface.
abbrev pub first_link : Option PcapHeader → List Described → Option ℕ
first_link (Some header) described = Some (link_of_header header)
first_link None described = option_map (λ first. link_number first.link) (slice_get described 0)

-- The text shows the link type that the first interface shares with all others, the word several, or a hyphen if there is no interface.
abbrev pub ShowsLink : Option ℕ → List Described → List ℕ → Type 0
ShowsLink None described text = text ≡ codes "-"
ShowsLink (Some number) described text = ShowsShared number described text

-- The number of interfaces. The header of a classic capture counts as one.
abbrev pub interfaces_in : Option PcapHeader → List Described → ℕ
interfaces_in None described = length described
interfaces_in (Some header) described = length described + 1

-- The number of a capture's interfaces as it is counted.
abbrev pub interfaces_of : Information → ℕ
interfaces_of told = counted (interfaces_in told.header told.described.items)

-- The line is the row of the capture of this name; its last column is the check's own line if that is known.
abbrev pub IsRow : List ℕ → Information → List ℕ → Type 0
IsRow name told line =
    (figures link check : List ℕ) × AreFigures told.checked.bytes told.totals.all figures × ShowsLink (first_link told.header told.described.items) told.described.items link
    × IfSome (line_of told.checked) (λ known. check ≡ known)
    × (line ≡ row name (format_name told.checked.format) figures
    (ending (interfaces_of told) link told.totals.refused (status_of told.checked.end) check))

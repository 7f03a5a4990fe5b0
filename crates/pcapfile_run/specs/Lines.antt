-- This file defines the line that reports the result of checking a capture, and the exit status.
use Rattle.std.specs.Prelude.{◌++◌, ℕ, List, codes, Option, None, Some, option_map}
use Rattle.std.specs.Fmt.{decimal}
use Rattle.pcap_core.specs.Faults.{rule_message}
use Rattle.pcap_core.specs.Rules.{number_of}
use Rattle.pcapfile_run.specs.declared.checked.Checked.{Checked}
use Rattle.pcapfile_run.specs.declared.checked.End.{End}
use Rattle.pcapfile_run.specs.declared.checked.End.TheVariants.{Whole, Most, Short, Breaks, NotUtf8, Unread, Memory}
use Rattle.pcapfile_run.specs.declared.format.Format.{Format}
use Rattle.pcapfile_run.specs.declared.format.Format.TheVariants.{Pcap, PcapNg}

-- The name of a format.
abbrev pub format_name : Format → List ℕ
format_name Pcap = codes "pcap"
format_name PcapNg = codes "pcapng"

-- The name of a format's items.
abbrev pub items_name : Format → List ℕ
items_name Pcap = codes "packets"
items_name PcapNg = codes "blocks"

-- The exit status of a process that found this end.
abbrev pub status_of : End → ℕ
status_of Whole = 0
status_of (Unread error) = 3
status_of Memory = 4
status_of _ = 1

-- The text about an end at this byte. The system's message for a failed read isn't known.
abbrev pub ending_text : End → ℕ → Option (List ℕ)
ending_text Whole byte = Some (decimal byte ++ codes " bytes")
ending_text Most byte = Some (decimal byte ++ codes " bytes or more")
ending_text Short byte = Some (codes "cut short at byte " ++ decimal byte)
ending_text (Breaks rule) byte =
    Some (codes "refused at byte " ++ (decimal byte ++ (codes " by rule " ++ (decimal (number_of rule) ++ (codes ": " ++ rule_message rule)))))
ending_text NotUtf8 byte = Some (codes "not UTF-8 at byte " ++ decimal byte)
ending_text (Unread error) byte = None
ending_text Memory byte = Some (codes "no memory at byte " ++ decimal byte)

-- The line of a check, without its newline, gives the format, the number of items, and their end.
abbrev pub line_of : Checked → Option (List ℕ)
line_of checked = option_map
    (λ ending. format_name checked.format ++ (codes ", " ++ (decimal checked.items ++ (codes " " ++ (items_name checked.format ++ (codes ", " ++ ending))))))
    (ending_text checked.end checked.bytes)

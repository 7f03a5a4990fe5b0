-- This file defines the lines for the flaws of blocks.
use Rattle.std.specs.Prelude.{◌≡◌, ℕ, List, [], ◌++◌, codes, Bool, Option, None, Some, Result, Ok, Err}
use Rattle.std.specs.List.{flat_map}
use Rattle.std.specs.Fmt.{decimal}
use Rattle.std.specs.Io.KnownBytes.{Appends}
use Rattle.pcap_core.specs.Faults.{Fault, Invalid, Io, Utf8, Own, rule_message}
use Rattle.pcap_core.specs.Rules.{number_of}
use Rattle.pcap_tolerant_blocks.specs.Flaws.{Said}
use Rattle.pcap_tolerant_captures.specs.Blocks.{Item}
use Rattle.pcap_program.specs.declared.exit.Exit.{Exit}
use Rattle.pcap_program.specs.Lines.{WritesLine}
use Rattle.pcapfile_as_is.specs.Counts.{are_some}

-- The text that says where a block is: its number and the number of bytes before it.
abbrev pub block_place : List ℕ → ℕ → ℕ → List ℕ
block_place prefix number place = prefix ++ (codes "block " ++ (decimal number ++ (codes " at byte " ++ decimal place)))

-- The text that names the option with a flaw, empty if it is in none.
abbrev pub option_text : Option ℕ → List ℕ
option_text None = []
option_text (Some code) = codes " in option " ++ decimal code

-- The line of a rule with this number and message that is broken at a place.
abbrev pub broken_rule : List ℕ → ℕ → List ℕ → List ℕ → List ℕ
broken_rule place number option message = place ++ (codes " breaks rule " ++ (decimal number ++ (option ++ (codes ": " ++ (message ++ codes "\n")))))

-- The line of a fault. A body has no fault of another format.
abbrev pub fault_line : List ℕ → List ℕ → Fault → List ℕ
fault_line place option (Invalid rule) = broken_rule place (number_of rule) option (rule_message rule)
fault_line place option Io = place ++ (codes " is too short" ++ (option ++ codes "\n"))
fault_line place option Utf8 = place ++ (codes " is not UTF-8" ++ (option ++ codes "\n"))
fault_line place option (Own n) = []

-- The line of a flaw.
abbrev pub said_line : List ℕ → Said → List ℕ
said_line place said = fault_line place (option_text said.code) said.fault

-- The lines of flaws, in order.
abbrev pub said_lines : List ℕ → List Said → List ℕ
said_lines place = flat_map (said_line place)

-- The lines of the block with this number, after this many bytes.
abbrev pub block_lines : List ℕ → ℕ → ℕ → Item → List ℕ
block_lines prefix number place item = said_lines (block_place prefix number place) item.led.flaws

-- WritesFlaws: a call wrote the lines of these flaws as a line is written, and returned whether there is a flaw.
abbrev pub WritesFlaws : List ℕ → List Said → Option (List ℕ) → Option (List ℕ) → Result Bool Exit → Type 0
WritesFlaws place flaws before after (Ok has_flaw) = (has_flaw ≡ are_some flaws) × Appends before after (said_lines place flaws)
WritesFlaws place flaws before after (Err exit) = WritesLine (λ lines. lines ≡ said_lines place flaws) before after (Err exit)

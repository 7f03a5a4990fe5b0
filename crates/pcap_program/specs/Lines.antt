-- This file defines the calls that write lines.
use Rattle.std.specs.Prelude.{ℕ, List, Option, Result, Ok, Err}
use Rattle.std.specs.Io.KnownBytes.{Appends, Keeps}
use Rattle.pcap_core.specs.declared.errors.PcapError.TheVariants.{IoError}
use Rattle.pcap_items.specs.Writing.{AppendsPart}
use Rattle.pcap_program.specs.declared.exit.Exit.{Exit}
use Rattle.pcap_program.specs.declared.exit.Exit.TheVariants.{Io, Memory}

-- WritesLine: a call wrote a whole line, or a write failed after a beginning of the line, or there was no memory to make it.
abbrev pub WritesLine : (List ℕ → Type 0) → Option (List ℕ) → Option (List ℕ) → Result (Unit {0}) Exit → Type 0
WritesLine IsLine before after (Ok done) = (line : List ℕ) × IsLine line × Appends before after line
WritesLine IsLine before after (Err (Io (IoError e))) = (line : List ℕ) × IsLine line × AppendsPart before after line
WritesLine IsLine before after (Err Memory) = Keeps before after
WritesLine IsLine before after (Err exit) = ⊥

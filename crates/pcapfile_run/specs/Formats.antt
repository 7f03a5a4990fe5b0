-- This file defines the format of a capture by its bytes.
use Rattle.std.specs.Prelude.{◌==◌, if◌then◌else◌, ℕ, List, [], ◌∷◌}
use Rattle.pcapfile_run.specs.declared.format.Format.{Format}
use Rattle.pcapfile_run.specs.declared.format.Format.TheVariants.{Pcap, PcapNg}

-- The format of a capture follows from its first byte: a section header begins with 10, in either byte order.
abbrev pub format_at : List ℕ → Format
format_at [] = Pcap
format_at (byte ∷ bytes) = if byte == 10 then PcapNg else Pcap

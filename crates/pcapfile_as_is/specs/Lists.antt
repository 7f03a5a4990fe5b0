-- This file defines the lines of packets that are read leniently.
use Rattle.std.specs.Prelude.{◌+◌, ◌*◌, ◌/◌, ◌%◌, ℕ, List, [], ◌++◌, codes, if◌then◌else◌}
use Rattle.std.specs.Fmt.{decimal}
use Rattle.pcap_classic.specs.declared.common.TsResolution.{TsResolution}
use Rattle.pcap_classic.specs.PacketText.{Head, nanoseconds}
use Rattle.pcap_program.specs.Digits.{nine_digits}
use Rattle.pcap_tolerant.specs.declared.as_is.Flaws.{Flaws}
use Rattle.pcap_tolerant.specs.AsIs.{AsIs}

-- The end of a line has a mark with the number of each rule that is broken.
abbrev pub marks_text : Flaws → List ℕ
marks_text f =
    (if f.fraction_too_large then codes " !2" else []) ++ ((if f.included_too_long then codes " !3" else [])
    ++ ((if f.original_too_long then codes " !4" else []) ++ ((if f.included_past_original then codes " !5" else []) ++ codes "\n")))

-- The time of a header in nanoseconds since 1970, exact even if its fraction is more than a second.
abbrev pub exact_time : TsResolution → Head → ℕ
exact_time r head = head.seconds * 1_000_000_000 + nanoseconds r head.fraction

-- The line of the packet with this number has its number, its time, its stored and original length, and its marks.
abbrev pub as_is_line : TsResolution → ℕ → AsIs → List ℕ
as_is_line r number packet =
    decimal number ++ (codes " " ++ (decimal (exact_time r packet.head / 1_000_000_000) ++ (codes "." ++ (nine_digits (exact_time r packet.head % 1_000_000_000)
    ++ (codes " " ++ (decimal packet.head.included ++ (codes "/" ++ (decimal packet.head.original ++ marks_text packet.flaws))))))))
